use Rattle.std.proofs.Common.{sym}
use Rattle.js_code.specs.Parts.{stmt_at}
use Rattle.js_steps.specs.Moment.{stmt_does}
use Rattle.js_steps.specs.PopLaws.{steps_in}
use Rattle.js_steps.proofs.Performed.{performs, no_call_none}
use Rattle.js_steps.proofs.steps.execute.perform.Goals as goal

pub perform_part-requires : goal.perform_part-requires
perform_part-requires c = record { held = c.requires.held; performed = sym c.in-Some.ensures.value }

pub returns-in-None : goal.returns-in-None
returns-in-None c = record {
  keeps =
      let s = c.args.state.now in
      let stack = c.args.stack.now.items in
      let new = c.first.new.stack.items in
      let s1 = c.first.new.state in
      steps_in c.args.env.now stack new s s1 c.first.result (λ st m. stmt_does st (stmt_at m.trees c.args.i) m)
      (performs stack new s s1 c.first.result c.args.i c.args.at c.args.e c.requires.held (λ h. no_call_none s.body.now.code c.args.e (sym c.in-None.ensures.value)) c.first.ensures.keeps);
}
