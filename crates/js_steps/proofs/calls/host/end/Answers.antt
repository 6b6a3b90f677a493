use Rattle.std.proofs.Common.{◌<◌, arith}
use Rattle.js_steps.proofs.Given.{ended, not_ended, no_text}
use Rattle.js_steps.proofs.calls.host.end.Goals as goal

pub returns-in_ok-tick-in-Some : goal.returns-in_ok-tick-in-Some
returns-in_ok-tick-in-Some c =
    let few : c.args.code < 256 = omega arith in
    record { keeps = λ stack u. ended stack c.args.state.now c.tick.new.state c.args.at u c.args.code c.in-Some.text c.args.text c.in-Some.is few c.in_ok-tick-in-Some.ensures.ticks }

pub returns-in_err-tick-in-Some : goal.returns-in_err-tick-in-Some
returns-in_err-tick-in-Some c =
    let few : c.args.code < 256 = omega arith in
    record {
      keeps = λ stack u. not_ended stack c.args.state.now c.tick.new.state c.args.at u c.args.code c.in-Some.text c.args.text _ c.from_residual.result c.in-Some.is few c.in_err-tick-in-Some.ensures.ticks c.from_residual.ensures.1;
    }

pub returns-in-None : goal.returns-in-None
returns-in-None c = record { keeps = λ stack u. no_text stack c.args.state.now c.args.at u c.args.code c.args.text c.in-None.is }
