-- Lemmas for single steps.
use Rattle.std.proofs.Common.{◌≡◌, ◌≤◌, ℕ, suc, nat_eq, arith, List, [], ◌∷◌, length, Bool, true, false, if◌then◌else◌, Option, Some, None, refl, sym, ap, ◌∙◌, subst, true≢false}
use Rattle.std.proofs.lemmas.List.{length-reverse}
use Rattle.std.proofs.lemmas.Bool.Decides.{nat_tests}
use Rattle.js_tree.specs.Script as script
use Rattle.js_tree.specs.Script.{Expr, no_stmts}
use Rattle.js_pool.specs.Tree as tree
use Rattle.js_pool.specs.Names.{name_bytes}
use Rattle.js_pool.specs.Says as say
use Rattle.js_pool.specs.Says.{SaysIn, SaysSwitch, AddsLine}
use Rattle.js_pool.specs.declared.name.Name.{Name}
use Rattle.js_pool.specs.declared.node.ExprId.{ExprId}
use Rattle.js_pool.specs.declared.node.Block.{Block}
use Rattle.js_pool.specs.declared.node.Cases.{Cases}
use Rattle.js_pool.specs.Stands.{Stands}
use Rattle.js_pool.specs.declared.node.Else.TheVariants as tail
use Rattle.js_pool.specs.declared.node.Stmt.TheVariants as line
use Rattle.js_pool.specs.declared.pool.Mark.{Mark}
use Rattle.js_pool.specs.declared.pool.Pool.{Pool}
use Rattle.js_body.specs.declared.body.Body.{Body}
use Rattle.js_body.specs.State.{State, Line, Arm, cases_tree, says, declares, assigns, block_tree, with_line, with_declared, with_temp, temp_number, temp_word, is_first, depth, scratched}
use Rattle.js_body.specs.Tells.{LineIs, said, BlockIs, around}
use Rattle.js_body.specs.Later.{stands_later}
use Rattle.js_body.specs.BlockLaws.{lines_length, block_later, block_says}
use Rattle.js_body.specs.StepLaws.{from_here, parts_line}
use Rattle.js_plain.specs.Control.{leave_line, label_bytes, when_line, else_line, if_line, arm_left, loop_line, again_line, choice_said, chosen_set, clause_left, switch_line, chain_labelled, turn_next, turns_of, turns_with}
use Rattle.js_plain.specs.Lines.{over, SaysArm}
use Rattle.js_plain.specs.declared.control.Turns.{Turns}
use Rattle.js_plain.specs.declared.control.Clauses.{Clauses}

pub labelled_lines : (b : Bool) (s : State) → length (chain_labelled b s).lines ≡ length s.lines
labelled_lines true s = refl
labelled_lines false s = refl

pub turns_next : (b : Bool) (end next : ℕ) (m : Mark) → next ≡ turn_next b end → turns_of end m next ≡ turns_with b end m
turns_next b end next m e = ap (turns_of end m) e

-- ---- ifs

-- a closed block after a test
pub when_said : (b : Body) (p : Pool) (i : ExprId) (d : Block) → AddsLine b.pool p (line.If i d tail.Nothing) → SaysArm b (over b p) i d (λ t ls s. with_line (when_line t ls) s)
when_said b p i d a = (
  a.0,
  λ l t h ls k s r.
      let g = from_here b.pool p a.0 l in
      parts_line b.pool p b.stack.items b.temps b.declared.items (around b) s (line.If i d tail.Nothing) (when_line t ls) a l (said refl (say.branch (stands_later g h) (block_says (block_later g k)) say.nothing)) r,
)

pub arm_longer : (end : Option ℕ) (mark : ℕ) (s : State) → mark ≤ length s.lines → mark ≤ length (arm_left end s).lines
arm_longer None mark s n = n
arm_longer (Some k) mark s n = omega (arith, n)

equal : (m n : ℕ) → nat_eq m n ≡ true → m ≡ n
equal m n e = grind (arith, nat_tests)

equals : (m n : ℕ) → m ≡ n → nat_eq m n ≡ true
equals m n e = grind (arith, nat_tests)

held_length : (p : Pool) (d : Block) (ls : List Line) → BlockIs p d ls → d.many ≡ length ls
held_length p d ls h = sym h.held.all ∙ sym (length-reverse h.stmts) ∙ lines_length h.lines

pub none_held : (p : Pool) (d : Block) (ls : List Line) → BlockIs p d ls → nat_eq d.many 0 ≡ true → ls ≡ []
none_held p d [] h e = refl
none_held p d (k ∷ ks) h e =
    let n : d.many ≡ suc (length ks) = held_length p d (k ∷ ks) h in
    let z : d.many ≡ 0 = equal d.many 0 e in
    absurd (omega (arith, n, z))

pub some_held : (p : Pool) (d : Block) (os : List Line) → BlockIs p d os → nat_eq d.many 0 ≡ false → (t : Expr) (ls : List Line) → if_line t ls os ≡ else_line t ls os
some_held p d [] h e t ls =
    let n : d.many ≡ 0 = held_length p d [] h in
    absurd (true≢false (sym (equals d.many 0 n) ∙ e))
some_held p d (k ∷ ks) h e t ls = refl

-- ---- loops and clauses

pub loops : (x : Name) (n : ℕ) → name_bytes x ≡ label_bytes n → (p : Pool) (d : Block) (ls : List Line) → SaysIn p d (block_tree ls no_stmts) → LineIs p (line.Forever (Some x) d) (loop_line n ls)
loops x n e p d ls h = subst (λ (k : List ℕ). LineIs p (line.Forever (Some x) d) (says (script.forever 0 (Some k) (block_tree ls no_stmts)))) e (said refl (say.forever h))

-- `continue` with a label
pub goes_on : (x : Name) (n : ℕ) → name_bytes x ≡ label_bytes n → (p : Pool) → LineIs p (line.Continue (Some x)) (again_line n)
goes_on x n e p = subst (λ (k : List ℕ). LineIs p (line.Continue (Some x)) (says (script.continue 0 (Some k)))) e (said refl say.continue)

if_lines : (b : Bool) (u v : State) (n : ℕ) → length u.lines ≡ n → length v.lines ≡ n → length (if b then u else v).lines ≡ n
if_lines true u v n h k = h
if_lines false u v n h k = k

scratch_lines : (t : Expr) (s : State) → length (scratched t s).lines ≡ suc (length s.lines)
scratch_lines t s =
    let place = depth s in
    let r = with_temp (temp_number place) s in
    if_lines (is_first place r) (with_line (declares (temp_word place) t) (with_declared place true r)) (with_line (assigns (temp_word place) t) r) (suc (length s.lines)) refl refl

pub chosen_longer : (n mark : ℕ) (s : State) → mark ≤ length s.lines → mark ≤ length (chosen_set n s).lines
chosen_longer n mark s h = omega (arith, h, scratch_lines (tree.number n) s)

pub clause_longer : (c : Clauses) (b : Bool) (mark : ℕ) (s : State) → mark ≤ length s.lines → mark ≤ length (clause_left c b s).lines
clause_longer c true mark s h = h
clause_longer c false mark s h = omega (arith, h)

pub switches : (x : Name) (n : ℕ) → name_bytes x ≡ label_bytes n → (p : Pool) (a : ExprId) (d : Cases) (t : Expr) (bs : List Arm) → Stands p a t → SaysSwitch p d None (cases_tree bs script.no_cases) → LineIs p (line.Switch (Some x) a d None) (switch_line n t bs)
switches x n e p a d t bs h k = subst (λ (z : List ℕ). LineIs p (line.Switch (Some x) a d None) (says (script.switch 0 (Some z) t (cases_tree bs script.no_cases)))) e (said refl (say.switch h k))

pub choice_longer : (c : Clauses) (n : ℕ) (s : State) → length s.lines ≤ length (choice_said c n s).lines
choice_longer c n s = omega (arith, scratch_lines (tree.number n) s)

-- `break` with a label
pub leaves : (x : Name) (n : ℕ) → name_bytes x ≡ label_bytes n → (p : Pool) → LineIs p (line.Break (Some x)) (leave_line n)
leaves x n e p = subst (λ (k : List ℕ). LineIs p (line.Break (Some x)) (says (script.break 0 (Some k)))) e (said refl say.break)
