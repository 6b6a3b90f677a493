use Rattle.js_value.specs.HeapSeen.{value_of}
use Rattle.js_steps.proofs.Given.{no_write}
use Rattle.js_steps.proofs.calls.host.write.Goals as goal

pub returns-in-None : goal.returns-in-None
returns-in-None c = record { keeps = λ stack s. no_write stack s c.args.at c.args.usage (value_of c.args.s) c.text_of.result c.text_of.ensures.value c.in-None.is }
