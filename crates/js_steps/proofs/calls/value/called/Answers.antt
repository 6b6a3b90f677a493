use Rattle.js_steps.proofs.Goes.{lacks}
use Rattle.js_steps.proofs.calls.value.called.Goals as goal

pub returns-in-None : goal.returns-in-None
returns-in-None c = record { keeps = λ stack s. lacks stack s c.args.at c.args.usage c.args.value c.in-Needed.is c.in-None.is }
