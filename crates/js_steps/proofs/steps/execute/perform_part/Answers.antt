use Rattle.std.proofs.Common.{ap, ◌∙◌}
use Rattle.js_code.specs.Parts.{stmt_at}
use Rattle.js_steps.specs.Moment.{stmt_does}
use Rattle.js_steps.specs.WayLaws.{some_part}
use Rattle.js_steps.specs.PopLaws.{steps_in}
use Rattle.js_steps.proofs.Calling.{performs_call}
use Rattle.js_steps.proofs.Performed.{performs, no_call_there}
use Rattle.js_steps.proofs.steps.execute.perform_part.Goals as goal

pub call-requires : goal.call-requires
call-requires c = record { held = c.requires.performed ∙ ap some_part c.in-Call.is }

pub returns-in-Call : goal.returns-in-Call
returns-in-Call c = record {
  keeps =
      performs_call c.args.env.now c.args.stack.now.items c.call.new.stack.items c.args.state.now c.call.new.state c.call.result c.args.i c.args.at c.args.e c.in-Call.at c.in-Call.callee c.in-Call.arguments
      c.requires.held (c.requires.performed ∙ ap some_part c.in-Call.is) c.call.ensures.keeps;
}

pub returns-in_default : goal.returns-in_default
returns-in_default c = record {
  keeps =
      let s = c.args.state.now in
      let stack = c.args.stack.now.items in
      let new = c.first.new.stack.items in
      let s1 = c.first.new.state in
      steps_in c.args.env.now stack new s s1 c.first.result (λ st m. stmt_does st (stmt_at m.trees c.args.i) m)
      (performs stack new s s1 c.first.result c.args.i c.args.at c.args.e c.requires.held (λ h. no_call_there s.body.now.code c.args.e c.args.part h c.requires.performed c.in_default.not-Call) c.first.ensures.keeps);
}
