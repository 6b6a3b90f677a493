-- The case that a value leads to.
use Rattle.std.proofs.Common.{◌≡◌, ◌<◌, refl, ap, sym, ◌∙◌, subst, ℕ, List, Option, Some, None, Bool, true, false, slice_get}
use Rattle.std.proofs.Math.Logic.{∥∥₁_elim}
use Rattle.std.proofs.Math.Bridge.{le_prop}
use Rattle.std.specs.Prelude.{pos, IfSome}
use Rattle.js_tree.specs.Script.{Stmts, Cases, case}
use Rattle.js_tree.specs.Value as run
use Rattle.js_tree.specs.Value.{Value, whole, choose}
use Rattle.js_tree.specs.Operation.{same_value}
use Rattle.js_tree.specs.Evaluate.{Setting, Scope, exec_cases, exec_through}
use Rattle.js_code.specs.Held.{part_of}
use Rattle.js_code.specs.Parts.{Part, Tree, as_cases, cases_at, tree_of, trees_of}
use Rattle.js_code.specs.PartClauses.{AreBelow, parts_in}
use Rattle.js_code.specs.PartLaws.{parts_stand}
use Rattle.js_code.specs.declared.code.part.Part as kept
use Rattle.js_code.specs.declared.code.part.Part.TheVariants as held
use Rattle.js_simple.specs.Simple.{IsSomeCode}
use Rattle.js_steps.specs.declared.operands.cases.Case.{Case}
use Rattle.js_steps.specs.Cases.{IsCaseOf}
use Rattle.js_steps.specs.WayLaws.{no_tree}

-- a part that is no case with a number stands for cases that begin with none
pub no_case : (p : kept.Part) → ((b cs n : ℕ) → ¬ (p ≡ held.Case b cs n)) → (ts : List Tree) → IsCaseOf ts (as_cases (Some (tree_of ts (part_of p)))) None
no_case (held.Case b cs n) h ts = absurd (h b cs n refl)
no_case p h ts = λ st sc v f. refl

-- no part, no cases
pub no_cases_there : (ps : List Part) (i : ℕ) → slice_get ps i ≡ None → IsCaseOf (trees_of ps) (cases_at (trees_of ps) i) None
no_cases_there ps i h =
    subst (λ (o : Option Tree). IsCaseOf (trees_of ps) (as_cases o) None) (sym (no_tree ps i h)) (λ st sc v f. refl)

-- the cases that a part of the code stands for
pub case_there : (ps : List Part) (i : ℕ) (q : kept.Part) (o : Option Case) → IsSomeCode ps → slice_get ps i ≡ Some (part_of q)
    → ((ts : List Tree) → IsCaseOf ts (as_cases (Some (tree_of ts (part_of q)))) o) → IsCaseOf (trees_of ps) (cases_at (trees_of ps) i) o
case_there ps i q o s h k =
    subst (λ (cs : Cases). IsCaseOf (trees_of ps) cs o) (sym (ap as_cases (parts_stand s.0 ps s.1 i (part_of q) h))) (k (trees_of ps))

pub case_below : (ps : List Part) (i : ℕ) (q : kept.Part) (o : Option Case) → IsSomeCode ps → slice_get ps i ≡ Some (part_of q)
    → ((k : ℕ) → AreBelow k (parts_in (part_of q)) → IfSome o (λ c. c.rest < k)) → IfSome o (λ c. c.rest < i)
case_below ps i q o s h k = k i (s.1.before i (part_of q) h)

-- the next case is one before it in the code
pub rest_below : (ps : List Part) (i : ℕ) (c : Case) → ∥ IsSomeCode ps ∥₁ → (IsSomeCode ps → c.rest < i) → c.rest < i
rest_below ps i c sound h = ∥∥₁_elim sound le_prop h

-- a value that is the number of a case, and one that is another
pub case_found : (cs rest : Cases) (n : ℕ) (b : Stmts) (v : Value) → cs ≡ case n b rest → same_value v (whole (pos n)) ≡ true → (st : Setting) (sc : Scope) (f : run.Frame) → exec_cases st sc cs v f ≡ exec_through st sc cs f
case_found cs rest n b v e h st sc f =
    ap (λ (x : Cases). exec_cases st sc x v f) e
    ∙ ap (λ (t : Bool). choose t (exec_through st sc (case n b rest)) (exec_cases st sc rest v) f) h
    ∙ sym (ap (λ (x : Cases). exec_through st sc x f) e)

pub case_passed : (cs rest : Cases) (n : ℕ) (b : Stmts) (v : Value) → cs ≡ case n b rest → same_value v (whole (pos n)) ≡ false → (st : Setting) (sc : Scope) (f : run.Frame) → exec_cases st sc cs v f ≡ exec_cases st sc rest v f
case_passed cs rest n b v e h st sc f =
    ap (λ (x : Cases). exec_cases st sc x v f) e ∙ ap (λ (t : Bool). choose t (exec_through st sc (case n b rest)) (exec_cases st sc rest v) f) h
