-- What the translation of an expression makes of a body's state, one case a form.
use Rattle.std.specs.Prelude.{◌≡◌, ℕ, ℤ, pos, negsuc, min, List, [], length, Bool, true, false, not, ◌&&◌, ◌||◌, if◌then◌else◌, Option, Some, None}
use Rattle.gj_base.specs.declared.kind.Kind.{Kind}
use Rattle.gj_base.specs.declared.kind.Op.{Op}
use Rattle.gj_base.specs.declared.kind.Op.TheVariants as op
use Rattle.go_type.specs.Tree.{Ty}
use Rattle.go_type.specs.Table.{places, names}
use Rattle.go_type.specs.Underlying.{underlying}
use Rattle.go_core.specs.CoreTree as core
use Rattle.go_core.specs.CoreTree.{Expr, CorePlace}
use Rattle.go_core.specs.CoreView.{expr_view}
use Rattle.go_core.specs.declared.node.CoreExpr.{CoreExpr}
use Rattle.js_tree.specs.Script as script
use Rattle.js_pool.specs.Stands.{Grows}
use Rattle.js_facts.specs.declared.facts.Facts.{Facts}
use Rattle.js_facts.specs.Held.{How, held_tree, kind_held}
use Rattle.js_body.specs.declared.body.Body.{Body}
use Rattle.js_body.specs.declared.body.Home.{Home}
use Rattle.js_body.specs.declared.body.Known.TheVariants as known
use Rattle.js_body.specs.State.{State, home_of, slot_read, var_tree, pushed, pushed_known, number_pushed, last_value, settled, lines_since, cut_to}
use Rattle.js_body.specs.Tells.{Tells, Lasts}
use Rattle.js_values.specs.Steps.{is_scalar}
use Rattle.js_values.specs.Numbers.{unary_done, binary_done, constant_count}
use Rattle.js_values.specs.Logic.{side_test, logic_begun, logic_ended}
use Rattle.js_values.specs.Values.{constant_done, zero_done, concatenated, equal_done, less_done, denied, converted}

-- ---- types

abbrev pub held_in : Facts → Ty → How
held_in f t = held_tree (underlying (names f.«program».now.types) t)

-- how values of a type are held
abbrev pub by_type : Ty → (How → State → State) → State → State
by_type t f s = f (held_in s.around.facts t) s

-- the kind of an integer type
abbrev pub by_int : Ty → (Kind → State → State) → State → State
by_int t f s = f (kind_held (held_in s.around.facts t)) s

-- ---- variables

-- a variable that is no struct and no array
abbrev pub scalar_pushed : Home → script.Expr → State → State
scalar_pushed h t s = if h.boxed || not s.around.plain then pushed t s else pushed_known known.Variable t s

abbrev pub scalar_read : Home → State → State
scalar_read h s = scalar_pushed h (var_tree h s) (slot_read h.slot s)

-- ---- counts of shifts

abbrev pub is_shift : Op → Bool
is_shift op.Shl = true
is_shift op.Shr = true
is_shift _ = false

abbrev pub known_count : Op → Expr → Option ℤ
known_count o e = if is_shift o then constant_count e else None

-- the second operand, or its known count
abbrev pub second_done : Option ℤ → (State → State) → State → State
second_done (Some n) f s = number_pushed n s
second_done None f s = f s

abbrev pub second_within : Option ℤ → Op → Bool → Bool
second_within (Some n) o b = true
second_within None o b = not (is_shift o) && b

-- ---- `&&` and `||`

-- the right side ends, with the statements since a mark
abbrev pub logic_closed : Bool → script.Expr → ℕ → State → State
logic_closed both t mark s = logic_ended both t (lines_since mark (settled s)) (cut_to mark (settled s)).lines s

-- the right side, after the left one
abbrev pub logic_done : Bool → (State → State) → State → State
logic_done goes_on f s = logic_closed goes_on (side_test goes_on (last_value (settled s)).tree) (length (logic_begun s).lines) (f (logic_begun s))

-- ---- expressions

-- the forms that the state below covers, in a plain function or not, with types of which this holds
abbrev pub within : (Ty → Bool) → Bool → Expr → Bool
within ok plain (core.constant t c) = true
within ok plain (core.zero_value t) = ok t
within ok plain (core.read t (core.local_ v)) = ok t
within ok plain (core.unary o t e) = within ok plain e
within ok plain (core.binary o t l r) = within ok plain l && second_within (known_count o r) o (within ok plain r)
within ok plain (core.concat t l r) = within ok plain l && within ok plain r
within ok plain (core.equal negated u t l r) = ok u && (within ok plain l && within ok plain r)
within ok plain (core.less o u t l r) = within ok plain l && within ok plain r
within ok plain (core.and_then t l r) = plain && (within ok plain l && within ok plain r)
within ok plain (core.or_else t l r) = plain && (within ok plain l && within ok plain r)
within ok plain (core.not_ t e) = within ok plain e
within ok plain (core.convert from t e) = (ok from && ok t) && within ok plain e
within ok plain _ = false

abbrev pub expr_state : Expr → State → State
expr_state (core.constant t c) s = by_int t (λ k. constant_done k c) s
expr_state (core.zero_value t) s = by_type t zero_done s
expr_state (core.read t (core.local_ v)) s = scalar_read (home_of (record { 0 = v }) s) s
expr_state (core.unary o t e) s = by_int t (unary_done o) (expr_state e s)
expr_state (core.binary o t l r) s = by_int t (binary_done o) (second_done (known_count o r) (expr_state r) (expr_state l s))
expr_state (core.concat t l r) s = concatenated (expr_state r (expr_state l s))
expr_state (core.equal negated u t l r) s = by_type u (equal_done negated) (expr_state r (expr_state l s))
expr_state (core.less o u t l r) s = by_type u (less_done o) (expr_state r (expr_state l s))
expr_state (core.and_then t l r) s = logic_done true (expr_state r) (expr_state l s)
expr_state (core.or_else t l r) s = logic_done false (expr_state r) (expr_state l s)
expr_state (core.not_ t e) s = denied (expr_state e s)
expr_state (core.convert from t e) s = by_type from (λ h. by_type t (converted h)) (expr_state e s)
expr_state _ s = s

-- any type
abbrev pub any_type : Ty → Bool
any_type t = true

-- numbers, truth values and strings
abbrev pub scalar_in : Facts → Ty → Bool
scalar_in f t = is_scalar (held_in f t)

-- by the trees of the program's types
abbrev pub seen : Facts → CoreExpr → Expr
seen f e = expr_view (places f.«program».now.types) e

-- these are the facts, and the function is plain or isn't
abbrev pub Near : Facts → Bool → State → Type 0
Near f plain s = (s.around.facts ≡ f) × (s.around.plain ≡ plain)

-- a body that told a state tells what a tree makes of it, where its types are scalar
abbrev pub TreeRuns : Body → Body → Facts → Bool → Expr → Type 0
TreeRuns p q f plain v = Grows p.pool q.pool × (Lasts q → (s : State) → Tells p s → Near f plain s → within (scalar_in f) plain v ≡ true → Tells q (expr_state v s))

-- likewise, what an expression makes of it, where its forms are covered
abbrev pub ExprRuns : Body → Body → CoreExpr → Type 0
ExprRuns p q e = within any_type true (expr_view [] e) ≡ true → (f : Facts) (plain : Bool) → TreeRuns p q f plain (seen f e)
