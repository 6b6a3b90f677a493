-- Own: what was printed stays, whatever is left to be done.
use Rattle.std.specs.Prelude.{◌<◌, ◌++◌, ℕ, List}
use Rattle.std.specs.Borrow.{Bor}
use Rattle.gj_base.specs.Counts.{Begins}
use Rattle.gj_base.specs.Sink.{SinkState}
use Rattle.js_tree.specs.Script.{ScriptTree}
use Rattle.js_tree.specs.Value.{World, Locals, gives, throws, over}
use Rattle.js_tree.specs.Evaluate.{setting}
use Rattle.js_steps.specs.declared.frames.frame.Frame.{Frame}
use Rattle.js_steps.specs.declared.frames.frame.Task.{Task}
use Rattle.js_steps.specs.declared.frames.frame.Task.TheVariants.{Write}
use Rattle.js_steps.specs.declared.frames.frame.Use.{Use}
use Rattle.js_steps.specs.Moment.{Moment, Out}
use Rattle.js_steps.specs.Stack.{resume, task_does}
use Rattle.js_steps.specs.Stands.{Before}
use Rattle.js_run.specs.Walks.{Reaches}

-- what was printed in one world begins what was in another
abbrev pub Later : World → World → Type 0
Later w w' = Begins w.printed w'.printed

-- the world that is left in the end
abbrev pub world_at : Out → World
world_at (gives a m) = m.world
world_at (throws at v m) = m.world
world_at (over e w) = w

-- what is done next, and then the stack, take nothing back
abbrev pub PrintsStay : Type 0
PrintsStay =
    (script : ScriptTree) (choices : List ℕ) (fuel : ℕ) (stack : List Frame) (callers : List Locals) (t : Task) (m : Moment)
    → Later m.world (world_at (resume (setting script choices fuel) stack callers (task_does (setting script choices fuel) t m)))

-- what was printed up to a point that was reached begins what is printed in the end
abbrev pub ReachedBegins : Type 0
ReachedBegins =
    (script : ScriptTree) (choices : List ℕ) (fuel : ℕ) (b : Before) (all : Out) (numbers : List ℕ) (sink sink' : SinkState) (t : Task) (r : Reaches script choices fuel b all numbers sink sink' t)
    → Begins r.before.printed (world_at all).printed

-- the same with a text that was to be printed then, with a tick left for it
abbrev pub TextBegins : Type 0
TextBegins =
    (script : ScriptTree) (choices : List ℕ) (fuel : ℕ) (b : Before) (all : Out) (numbers : List ℕ) (sink sink' : SinkState) (at : ℕ) (u : Use) (text : Bor (List ℕ))
    (r : Reaches script choices fuel b all numbers sink sink' (Write at u text)) → 0 < r.state.left → Begins (r.before.printed ++ text.now) (world_at all).printed
