use Rattle.js_value.specs.HeapSeen.{value_of}
use Rattle.js_steps.proofs.Given.{ends_by, no_end}
use Rattle.js_steps.proofs.calls.host.finish.Goals as goal

pub returns-in-Some : goal.returns-in-Some
returns-in-Some c = record {
  keeps = λ stack u.
      ends_by stack c.args.state.now c.end.new.state c.args.at u (value_of c.args.code) (value_of c.args.text) c.in-Some.status c.text_of.result c.end.result c.in-Some.ensures.value c.text_of.ensures.value
      (c.end.ensures.keeps stack u);
}

pub returns-in-None : goal.returns-in-None
returns-in-None c = record { keeps = λ stack u. no_end stack c.args.state.now c.args.at u (value_of c.args.code) (value_of c.args.text) c.in-None.ensures.value }
