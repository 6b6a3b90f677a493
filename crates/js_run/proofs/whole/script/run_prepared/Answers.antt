use Rattle.std.proofs.Common.{sym, subst, List}
use Rattle.js_tree.specs.Script.{name}
use Rattle.js_steps.specs.Bodies.{IsProgram}
use Rattle.js_steps.specs.declared.bodies.body.Body.{Body}
use Rattle.js_run.specs.declared.whole.prepare.First.{First}
use Rattle.js_run.specs.Firsts.{AreFirsts}
use Rattle.js_run.proofs.Begun.{first_point, nothing_so}
use Rattle.js_run.proofs.whole.script.run_prepared.Goals as goal

pub returns : goal.returns
returns g c = record {
  runs = λ script sound p q.
      c.ended.ensures.runs script c.args.budget (g.C.Choices.taken c.args.choices.now) (g.C.Choices.taken c.run_all-outcome.new.choices) (g.O.Sink.state c.args.out.now) (g.O.Sink.state c.run_all-outcome.new.out) c.run_all-outcome.new.state
      (c.run_all-outcome.ensures.goes script c.args.budget (g.C.Choices.taken c.args.choices.now) (g.O.Sink.state c.args.out.now) (subst (λ (bs : List Body). IsProgram script bs) (sym c.as_slice.ensures.value) p.program)
      (subst (λ (fs : List First). AreFirsts script script.items fs) (sym c.as_slice-firsts.ensures.value) p.firsts) p.start q
      (first_point script c.args.budget c.args.prepared.now.globals (g.C.Choices.taken c.args.choices.now) (g.O.Sink.state c.args.out.now) _ (name script.start_at script.start) c.in_ok-state.state sound p.globals p.start c.in_ok-state.ensures.value));
}

pub returns-in_err-state : goal.returns-in_err-state
returns-in_err-state g c = record {
  runs = λ script sound p q. nothing_so script c.args.budget (g.C.Choices.taken c.args.choices.now) (g.O.Sink.state c.args.out.now) c.from_residual.result c.from_residual.ensures.1;
}
