-- Calls, for a value and as statements.
use Rattle.std.proofs.Common.{◌≡◌, refl, ap, sym, ◌∙◌, subst, ℕ, List, [], Option, Some, slice_get}
use Rattle.std.specs.Prelude.{Result}
use Rattle.js_tree.specs.Evaluate.{setting, eval}
use Rattle.js_code.specs.Parts.{Tree, call, perform, as_expr, as_stmt, expr_at, exprs_at, stmt_at}
use Rattle.js_tree.specs.Script as tree
use Rattle.js_steps.specs.declared.frames.frame.Frame.{Frame}
use Rattle.js_steps.specs.declared.frames.frame.Halt.{Halt}
use Rattle.js_steps.specs.declared.frames.frame.Task.{Task}
use Rattle.js_steps.specs.declared.frames.frame.Use.TheVariants.{Needed, Dropped}
use Rattle.js_steps.specs.declared.frames.state.Env.{Env}
use Rattle.js_steps.specs.declared.frames.state.State.{State}
use Rattle.js_steps.specs.Moment.{Out, expr_does, stmt_does, with_value, arguments_do}
use Rattle.js_steps.specs.Stack.{resume}
use Rattle.js_steps.specs.Stands.{Keeps, StepsIn, moment}
use Rattle.js_steps.specs.PartLaws.{tree_held}
use Rattle.js_steps.specs.WayLaws.{value_same}
use Rattle.js_steps.proofs.StepsCalls.{call_is, perform_call_is}

pub calls_part : (env : Env) (stack new : List Frame) (s s' : State) (r : Result Task Halt) (i at f es : ℕ) → slice_get s.body.now.code i ≡ Some (call at f es)
    → StepsIn env stack s new s' r (λ st m. with_value (expr_does st (expr_at m.trees f) m) (λ v n. arguments_do st at Needed v [] (exprs_at n.trees es) n))
    → StepsIn env stack s new s' r (λ st m. expr_does st (expr_at m.trees i) m)
calls_part env stack new s s' r i at f es held k = λ script choices fuel b vs program stands.
    let st = setting script choices fuel in
    let m = moment b vs s in
    let e : expr_does st (expr_at m.trees i) m ≡ with_value (expr_does st (expr_at m.trees f) m) (λ v n. arguments_do st at Needed v [] (exprs_at n.trees es) n) =
    ap (λ (o : Option Tree). expr_does st (as_expr o) m) (tree_held script fuel vs stack s i (call at f es) stands held)
    ∙ call_is st m at (expr_at m.trees f) (exprs_at m.trees es)
    ∙ value_same m (eval st m.scope m.locals (expr_at m.trees f) m.world) (λ v n. arguments_do st at Needed v [] (exprs_at m.trees es) n) (λ v n. arguments_do st at Needed v [] (exprs_at n.trees es) n) (λ v w. refl) in
    subst (λ (o : Out). Keeps script choices fuel b (resume st stack vs.callers o) new s' r) (sym e) (k script choices fuel b vs program stands)

pub performs_call : (env : Env) (stack new : List Frame) (s s' : State) (r : Result Task Halt) (i j p at f es : ℕ) → slice_get s.body.now.code i ≡ Some (perform j p) → slice_get s.body.now.code p ≡ Some (call at f es)
    → StepsIn env stack s new s' r (λ st m. with_value (expr_does st (expr_at m.trees f) m) (λ v n. arguments_do st at Dropped v [] (exprs_at n.trees es) n))
    → StepsIn env stack s new s' r (λ st m. stmt_does st (stmt_at m.trees i) m)
performs_call env stack new s s' r i j p at f es held performed k = λ script choices fuel b vs program stands.
    let st = setting script choices fuel in
    let m = moment b vs s in
    let e : stmt_does st (stmt_at m.trees i) m ≡ with_value (expr_does st (expr_at m.trees f) m) (λ v n. arguments_do st at Dropped v [] (exprs_at n.trees es) n) =
    ap (λ (o : Option Tree). stmt_does st (as_stmt o) m) (tree_held script fuel vs stack s i (perform j p) stands held)
    ∙ ap (λ (o : Option Tree). stmt_does st (tree.perform j (as_expr o)) m) (tree_held script fuel vs stack s p (call at f es) stands performed)
    ∙ perform_call_is st m j at (expr_at m.trees f) (exprs_at m.trees es)
    ∙ value_same m (eval st m.scope m.locals (expr_at m.trees f) m.world) (λ v n. arguments_do st at Dropped v [] (exprs_at m.trees es) n) (λ v n. arguments_do st at Dropped v [] (exprs_at n.trees es) n) (λ v w. refl) in
    subst (λ (o : Out). Keeps script choices fuel b (resume st stack vs.callers o) new s' r) (sym e) (k script choices fuel b vs program stands)
