-- Expressions as statements, where they are no calls.
use Rattle.std.proofs.Common.{◌≡◌, refl, ap, sym, ◌∙◌, subst, ℕ, List, Option, Some, None, slice_get}
use Rattle.std.specs.Prelude.{Result}
use Rattle.js_tree.specs.Script.{Expr, call}
use Rattle.js_tree.specs.Script as tree
use Rattle.js_tree.specs.Value as run
use Rattle.js_tree.specs.Value.{Value, World, Locals, Outcome, gives, throws, over, and_then}
use Rattle.js_tree.specs.Evaluate.{Setting, setting, Scope, onward, eval, eval_dropped}
use Rattle.js_code.specs.Places.{table_of}
use Rattle.js_code.specs.Held.{part_of}
use Rattle.js_code.specs.Parts.{Part, Tree, perform, as_expr, as_stmt, expr_at, stmt_at, tree_of, trees_of}
use Rattle.js_code.specs.PartLaws.{parts_stand}
use Rattle.js_code.specs.declared.code.part.Part as kept
use Rattle.js_code.specs.declared.code.part.Part.TheVariants as held
use Rattle.js_simple.specs.Simple.{IsSomeCode}
use Rattle.js_steps.specs.Bodies.{names_in}
use Rattle.js_steps.specs.declared.frames.frame.Frame.{Frame}
use Rattle.js_steps.specs.declared.frames.frame.Halt.{Halt}
use Rattle.js_steps.specs.declared.frames.frame.Task.{Task}
use Rattle.js_steps.specs.declared.frames.state.State.{State}
use Rattle.js_steps.specs.Moment.{Moment, flow, flowing, valued, expr_does, stmt_does, with_value}
use Rattle.js_steps.specs.PartWaits.{first_does, stmt_first}
use Rattle.js_steps.specs.Stands.{Steps, moment}
use Rattle.js_steps.specs.WayLaws.{begins, no_tree}

abbrev pub IsNoCall : Expr → Type 0
IsNoCall (call at f es) = ⊥
IsNoCall e = Unit {0}

no_call_part : (q : kept.Part) (ts : List Tree) → ((at f es : ℕ) → ¬ (q ≡ held.Call at f es)) → IsNoCall (as_expr (Some (tree_of ts (part_of q))))
no_call_part (held.Call at f es) ts h = absurd (h at f es refl)
no_call_part q ts h = tt

pub no_call_there : (ps : List Part) (e : ℕ) (q : kept.Part) → IsSomeCode ps → slice_get ps e ≡ Some (part_of q) → ((at f es : ℕ) → ¬ (q ≡ held.Call at f es)) → IsNoCall (expr_at (trees_of ps) e)
no_call_there ps e q s there h = subst (λ (o : Option Tree). IsNoCall (as_expr o)) (sym (parts_stand s.0 ps s.1 e (part_of q) there)) (no_call_part q (trees_of ps) h)

pub no_call_none : (ps : List Part) (e : ℕ) → slice_get ps e ≡ None → IsNoCall (expr_at (trees_of ps) e)
no_call_none ps e h = subst (λ (o : Option Tree). IsNoCall (as_expr o)) (sym (no_tree ps e h)) tt

dropped : (st : Setting) (sc : Scope) (ls : Locals) (e : Expr) (w : World) → IsNoCall e → eval_dropped st sc ls e w ≡ and_then (eval st sc ls e w) (λ v w. gives (Some v) w)
dropped st sc ls (call at f es) w h = absurd h
dropped st sc ls e w h = refl

perform_is : (st : Setting) (m : Moment) (at : ℕ) (e : Expr) → IsNoCall e → stmt_does st (tree.perform at e) m ≡ with_value (expr_does st e m) (stmt_first st (tree.perform at e))
perform_is st m at e h =
    ap (λ (o : Outcome World (Option Value)). flowing m (and_then (run.in_frame m.locals o) (λ v f. gives onward f))) (dropped st m.scope m.locals e m.world h)
    ∙ by (eval st m.scope m.locals e m.world)
  where
    by : (o : Outcome World Value) → flowing m (and_then (run.in_frame m.locals (and_then o (λ v w. gives (Some v) w))) (λ v f. gives onward f)) ≡ with_value (valued m o) (λ v n. gives (flow onward) n)
    by (gives v w) = refl
    by (throws j v w) = refl
    by (over x w) = refl

pub performs : (stack new : List Frame) (s s' : State) (r : Result Task Halt) (i at e : ℕ) → slice_get s.body.now.code i ≡ Some (perform at e) → (IsSomeCode s.body.now.code → IsNoCall (expr_at (trees_of s.body.now.code) e))
    → Steps stack s new s' r (λ st m. with_value (expr_does st (expr_at m.trees e) m) (λ v n. first_does st (slice_get n.trees i) v n))
    → Steps stack s new s' r (λ st m. stmt_does st (stmt_at m.trees i) m)
performs stack new s s' r i at e there no_call k =
    begins stack new s s' r i e (held.Perform at e) (held.Perform at e) (λ st t m. stmt_does st (as_stmt t) m) there refl
    (λ script choices fuel b vs h. perform_is (setting script choices fuel) (moment b vs s) at (expr_at (trees_of s.body.now.code) e) (no_call (table_of script (names_in s.body.now), h.body.code))) k
