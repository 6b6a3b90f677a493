-- A loop without a condition.
use Rattle.std.proofs.Common.{◌≡◌, ap, sym, ◌∙◌, subst, ℕ, List, Option, Some, slice_get}
use Rattle.std.specs.Prelude.{Result}
use Rattle.js_tree.specs.Script.{Name}
use Rattle.js_tree.specs.Evaluate.{setting}
use Rattle.js_code.specs.Parts.{Tree, forever, as_stmt, stmt_at, stmts_at, tree_of}
use Rattle.js_steps.specs.declared.frames.frame.Frame.{Frame}
use Rattle.js_steps.specs.declared.frames.frame.Halt.{Halt}
use Rattle.js_steps.specs.declared.frames.frame.Task.{Task}
use Rattle.js_steps.specs.declared.frames.state.State.{State}
use Rattle.js_steps.specs.Moment.{Out, stmt_does}
use Rattle.js_steps.specs.PartWaits.{turn_does}
use Rattle.js_steps.specs.Stack.{loop_label, resume}
use Rattle.js_steps.specs.Stands.{Keeps, Steps, moment}
use Rattle.js_steps.specs.PartLaws.{tree_held}
use Rattle.js_steps.proofs.Begins.{forever_is}

pub forever_goes : (stack new : List Frame) (s s' : State) (r : Result Task Halt) (i at body : ℕ) (label : Option Name) → slice_get s.body.now.code i ≡ Some (forever at label body)
    → Steps stack s new s' r (λ st m. turn_does st (stmt_at m.trees i) (loop_label (stmt_at m.trees i)) (stmts_at m.trees body) m)
    → Steps stack s new s' r (λ st m. stmt_does st (stmt_at m.trees i) m)
forever_goes stack new s s' r i at body label held k = λ script choices fuel b vs stands.
    let st = setting script choices fuel in
    let m = moment b vs s in
    let t : slice_get m.trees i ≡ Some (tree_of m.trees (forever at label body)) = tree_held script fuel vs stack s i (forever at label body) stands held in
    let e : stmt_does st (stmt_at m.trees i) m ≡ turn_does st (stmt_at m.trees i) (loop_label (stmt_at m.trees i)) (stmts_at m.trees body) m =
    ap (λ (o : Option Tree). stmt_does st (as_stmt o) m) t
    ∙ forever_is script choices fuel m at label (stmts_at m.trees body) stands.few
    ∙ sym (ap (λ (o : Option Tree). turn_does st (as_stmt o) (loop_label (as_stmt o)) (stmts_at m.trees body) m) t) in
    subst (λ (o : Out). Keeps script choices fuel b (resume st stack vs.callers o) new s' r) (sym e) (k script choices fuel b vs stands)
