-- Go specification (as of Go 1.17), "Statements", "Blocks", "Declarations and scope": statements of which nothing is told have cores
-- that have a meaning.
use Rattle.std.specs.Prelude.{◌≡◌, ◌≤◌, ◌<◌, ℕ, List, [], ◌∷◌, ◌++◌, true, Some, Contains}
use Rattle.go_syntax.specs.Tree as t
use Rattle.go_type.specs.Tree.{Ty}
use Rattle.go_type.specs.Named.{NamedTy}
use Rattle.go_core.specs.CoreTree.{Var, CoreProgram}
use Rattle.go_core.specs.SoundNode as sound
use Rattle.go_core.specs.Sound.{SoundStmts}
use Rattle.go_typing.specs.Env.{variable, Bind, lookup}
use Rattle.go_typing.specs.Walk.{Walk, Around, Target, body}
use Rattle.go_typing.specs.Statements.{stmt}
use Rattle.go_sound.specs.Added.{TypesAreSet}
use Rattle.go_sound.specs.SoundTyped.{AreScalarTypes}
use Rattle.go_sound.specs.SoundValues.{IsReady}
use Rattle.go_sound.specs.Grammar.{StmtOfGrammar}

-- the variables in scope have numbers before the next one
abbrev pub VariablesBefore : ℕ → List (List Bind) → Type 0
VariablesBefore n ss = (x : List ℕ) (id : ℕ) (u : Ty) → lookup x ss ≡ Some (variable id u) → id < n

-- what may be left can be left, and what may be continued can be continued
abbrev pub TargetsAreAround : sound.Around → List Target → Type 0
TargetsAreAround a [] = Unit {0}
TargetsAreAround a (g ∷ gs) = Contains a.breaks g.label × (g.is_loop ≡ true → Contains a.continues g.label) × TargetsAreAround a gs

-- the results are those of the function, and no label has a number that comes next
pub record IsAround (p : CoreProgram) (a : sound.Around) (b : Around) (w : Walk) : Type 0 where
  pub results : b.results ≡ Some a.results
  pub results_scalar : AreScalarTypes p a.results
  pub results_set : TypesAreSet w.names a.results
  pub targets : TargetsAreAround a b.targets
  pub labels_before : (label : ℕ) → Contains a.breaks label → label < w.next_label

-- what a statement adds is in the program: its variables may be declared, and its named types are of the program's list
pub record Holds (p : CoreProgram) (declarable : List Var) (w v : Walk) : Type 0 where
  pub variables : (x : Var) → w.next ≤ x.id → Contains v.vars x → Contains declarable x
  pub further : List NamedTy
  pub names_kept : p.names ≡ v.names ++ further

abbrev pub StatementsAreSound : Type 0
StatementsAreSound = (p : CoreProgram) (a : sound.Around) (b : Around) (w : Walk) → IsReady p a w → VariablesBefore w.next w.scopes → IsAround p a b w
    → (s : t.Stmt) → StmtOfGrammar s → Holds p a.declarable w (stmt s b w).walk → (stmt s b w).flaws ≡ [] → SoundStmts p a (body (stmt s b w).core)
