-- `&&` and `||` in plain functions: what the two sides make of a body's state.
use Rattle.std.proofs.Common.{◌≡◌, ℕ, List, ◌++◌, ◌-◌, length, Bool, true, false, if◌then◌else◌, Option, Some, None, refl, sym}
use Rattle.js_tree.specs.Script as script
use Rattle.js_tree.specs.Script.{Expr, no_stmts}
use Rattle.js_tree.specs.declared.tree.UnaryOp.TheVariants.{Not}
use Rattle.js_pool.specs.Tree.{unary}
use Rattle.js_pool.specs.Stands.{Stands, Grows}
use Rattle.js_pool.specs.declared.node.ExprId.{ExprId}
use Rattle.js_body.specs.declared.body.Body.{Body}
use Rattle.js_body.specs.State.{State, Line, says, declares, assigns, depth, temp_number, temp_word, with_line, with_lines_of, with_declared, with_temp, is_first, is_temporary, block_tree, last_value, popped, pushed, pushed_value, settled, is_join, joined, just_set, only_set, can_join, may_join, sides_joined, set_joined}
use Rattle.js_body.specs.StepLaws.{if_false}
use Rattle.js_body.specs.Tells.{Tells, Lasts}
use Rattle.js_values.specs.declared.logic.Logic.{Logic}

-- what holds where the right side decides
abbrev pub side_test : Bool → Expr → Expr
side_test goes_on t = if goes_on then t else unary Not t

-- before the right side, the last value being the left one
abbrev pub logic_begun : State → State
logic_begun s = popped (settled s)

-- a statement with the right side
abbrev pub side_line : Expr → List Line → Line
side_line t ls = says (script.branch 0 t (block_tree ls no_stmts) script.no_else)

-- after the right side, whose statements come after others: both sides are one expression where they can be
abbrev pub sides_ended : Bool → Expr → List Line → State → State
sides_ended both t ls s = if is_join ls s then joined both ls s else with_line (side_line t ls) s

abbrev pub logic_ended : Bool → Expr → List Line → List Line → State → State
logic_ended both t ls base s = sides_ended both t ls (with_lines_of base (settled s))

-- what stands before the right side
pub record LogicIs (q : Body) (l : Logic) (goes_on : Bool) (t : Expr) (s : State) : Type 0 where
  pub mark : l.mark.0 ≡ length s.lines
  pub test : Stands q.pool l.test (side_test goes_on t)
  pub both : l.both ≡ goes_on

abbrev pub BeginsPlain : Body → Body → ExprId → Logic → Bool → Type 0
BeginsPlain p q a l goes_on = Grows p.pool q.pool × (Lasts q → (t : Expr) → Stands p.pool a t → (s : State) → Tells p s → LogicIs q l goes_on t s × Tells q s)

abbrev pub BeginsLogic : Body → Body → Logic → Bool → Type 0
BeginsLogic p q l goes_on =
    Grows p.pool q.pool ×
    (Lasts q → (s : State) → Tells p s → s.around.plain ≡ true → LogicIs q l goes_on (last_value (settled s)).tree (logic_begun s) × Tells q (logic_begun s))

abbrev pub EndsPlain : Body → Body → Logic → Type 0
EndsPlain p q l =
    Grows p.pool q.pool ×
    (Lasts q → (t : Expr) → Stands p.pool l.test t → (s : State) → Tells p s → (ls base : List Line) → s.lines ≡ ls ++ base → l.mark.0 ≡ length base → Tells q (sides_ended l.both t ls (with_lines_of base s)))

abbrev pub EndsLogic : Body → Body → Logic → Type 0
EndsLogic p q l =
    Grows p.pool q.pool ×
    (Lasts q → (t : Expr) → Stands p.pool l.test t → (s : State) → Tells p s → s.around.plain ≡ true → (ls base : List Line) → (settled s).lines ≡ ls ++ base → l.mark.0 ≡ length base → Tells q (logic_ended l.both t ls base s))

if_plain : (b : Bool) (x y : State) (p : Bool) → x.around.plain ≡ p → y.around.plain ≡ p → (if b then x else y).around.plain ≡ p
if_plain true x y p a c = a
if_plain false x y p a c = c

pushed_plain : (t : Expr) (s : State) → (pushed t s).around.plain ≡ s.around.plain
pushed_plain t s =
    let p = depth s in
    let r = with_temp (temp_number p) s in
    if_plain (is_first p r) (with_line (declares (temp_word p) t) (with_declared p true r)) (with_line (assigns (temp_word p) t) r) s.around.plain refl refl

-- a machine stays one, and so does a plain function
pub settled_plain : (s : State) → (settled s).around.plain ≡ s.around.plain
settled_plain s =
    let v = last_value s in
    if_plain (is_temporary v.known) (pushed_value v (popped s)) (pushed v.tree (popped s)) s.around.plain refl (pushed_plain v.tree (popped s))

unjoined_sides : (place : ℕ) (both : Bool) (x y : Option Expr) (s : State) → may_join x y ≡ false → sides_joined place both x y s ≡ s
unjoined_sides place both (Some t) (Some u) s e = sym (if_false (can_join t u) (set_joined place both t u s) s e)
unjoined_sides place both (Some t) None s e = refl
unjoined_sides place both None z s e = refl

-- where both sides are no one expression the state stays
pub unjoined : (both : Bool) (ls : List Line) (s : State) → is_join ls s ≡ false → joined both ls s ≡ s
unjoined both ls s e = unjoined_sides (depth s - 1) both (just_set s) (only_set (depth s - 1) ls) s e
