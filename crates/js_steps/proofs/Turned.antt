-- After a turn of a loop.
use Rattle.std.proofs.Common.{◌≡◌, ℕ, List, Option}
use Rattle.std.specs.Prelude.{Ok}
use Rattle.js_tree.specs.Script.{Name}
use Rattle.js_tree.specs.Evaluate.{Setting, setting, Flow}
use Rattle.js_code.specs.Places.{table_of}
use Rattle.js_code.specs.Parts.{stmt_at, trees_of}
use Rattle.js_simple.specs.Simple.{IsSomeCode}
use Rattle.js_steps.specs.Bodies.{names_in}
use Rattle.js_steps.specs.declared.frames.frame.Frame.{Frame}
use Rattle.js_steps.specs.declared.frames.frame.Task.{Task}
use Rattle.js_steps.specs.declared.frames.state.State.{State}
use Rattle.js_steps.specs.Moment.{Moment}
use Rattle.js_steps.specs.Stack.{loop_label, task_does, turned}
use Rattle.js_steps.specs.Stands.{Steps, moment}
use Rattle.js_steps.specs.StepLaws.{goes_as}

pub turned_here : (stack : List Frame) (s : State) (i : ℕ) (t : Task) (l : Option Name) (x : Flow) → (IsSomeCode s.body.now.code → l ≡ loop_label (stmt_at (trees_of s.body.now.code) i))
    → ((st : Setting) (m : Moment) → l ≡ loop_label (stmt_at m.trees i) → task_does st t m ≡ turned st (stmt_at m.trees i) x m)
    → Steps stack s stack s (Ok t) (λ st m. turned st (stmt_at m.trees i) x m)
turned_here stack s i t l x q k = λ script choices fuel b vs stands.
    let st = setting script choices fuel in
    let m = moment b vs s in
    goes_as script choices fuel b vs stack s t (turned st (stmt_at m.trees i) x m) (k st m (q (table_of script (names_in s.body.now), stands.body.code))) stands
