use Rattle.std.proofs.Common.{refl, sym, ◌∙◌}
use Rattle.js_tree.specs.View.{script_view}
use Rattle.js_run.proofs.Ended.{broken}
use Rattle.js_run.proofs.Begun.{nothing_so}
use Rattle.js_run.proofs.whole.script.run.Goals as goal

pub returns-in-Some : goal.returns-in-Some
returns-in-Some g c = record {
  runs =
      broken (script_view c.args.script.now) c.args.budget c.in-Some.at (g.C.Choices.taken c.args.choices.now) (g.O.Sink.state c.args.out.now) (sym c.in-Some.is ∙ c.in_ok-at.ensures.value) _ refl;
}

pub returns-in_err-at : goal.returns-in_err-at
returns-in_err-at g c = record {
  runs = nothing_so (script_view c.args.script.now) c.args.budget (g.C.Choices.taken c.args.choices.now) (g.O.Sink.state c.args.out.now) c.from_residual.result c.from_residual.ensures.1;
}
