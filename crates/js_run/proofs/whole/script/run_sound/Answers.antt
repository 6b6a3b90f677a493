use Rattle.js_tree.specs.View.{script_view}
use Rattle.js_run.proofs.Begun.{nothing_so}
use Rattle.js_run.proofs.whole.script.run_sound.Goals as goal

pub returns-in_err-start : goal.returns-in_err-start
returns-in_err-start g c = record {
  runs = nothing_so (script_view c.args.script.now) c.args.budget (g.C.Choices.taken c.args.choices.now) (g.O.Sink.state c.args.out.now) c.from_residual.result c.from_residual.ensures.1;
}
