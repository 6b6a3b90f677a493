-- Own: statements that are done at once.
use Rattle.std.specs.Prelude.{◌≡◌, List, Result, Ok, Err, Bool, true, false}
use Rattle.js_tree.specs.Evaluate.{Setting}
use Rattle.js_steps.specs.declared.frames.frame.Flow.TheVariants.{Onward}
use Rattle.js_steps.specs.declared.frames.frame.Frame.{Frame}
use Rattle.js_steps.specs.declared.frames.frame.Halt.{Halt}
use Rattle.js_steps.specs.declared.frames.frame.Task.TheVariants.{Follow}
use Rattle.js_steps.specs.declared.frames.state.State.{State}
use Rattle.js_steps.specs.Moment.{Moment, Out}
use Rattle.js_steps.specs.Stands.{Steps}

-- a statement that was done with the stack as it is, or that was not begun
abbrev pub Did : List Frame → State → State → Result Bool Halt → (Setting → Moment → Out) → Type 0
Did stack s s' (Ok true) part = Steps stack s stack s' (Ok (Follow Onward)) part
Did stack s s' (Ok false) part = s' ≡ s
Did stack s s' (Err x) part = Steps stack s stack s' (Err x) part
