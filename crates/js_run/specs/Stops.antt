-- Own: what ends the steps of a run, by what a step and a sink say.
use Rattle.std.specs.Prelude.{Result, Ok, Err}
use Rattle.gj_base.specs.declared.sink.SinkError.{SinkError}
use Rattle.gj_base.specs.declared.sink.SinkError.TheVariants as sink
use Rattle.js_steps.specs.declared.frames.frame.Halt.{Halt}
use Rattle.js_steps.specs.declared.frames.frame.Halt.TheVariants as halt
use Rattle.js_steps.specs.declared.frames.frame.Task.{Task}
use Rattle.js_run.specs.declared.walks.stop.Stop.{Stop}
use Rattle.js_run.specs.declared.walks.stop.Stop.TheVariants.{WriteFault, NoMemory, Over}

abbrev pub stop_of : Halt → Stop
stop_of halt.NoMemory = NoMemory
stop_of (halt.Over e) = Over e

abbrev pub sink_stop : SinkError → Stop
sink_stop sink.Failed = WriteFault
sink_stop sink.NoMemory = NoMemory

-- a step that reaches nothing outside
abbrev pub next_of : Result Task Halt → Result Task Stop
next_of (Ok t) = Ok t
next_of (Err h) = Err (stop_of h)
