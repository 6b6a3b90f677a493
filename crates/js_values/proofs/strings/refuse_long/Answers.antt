use Rattle.js_body.specs.State.{panicked_if}
use Rattle.js_values.specs.Steps.{built_done}
use Rattle.js_values.specs.Values.{long_test}
use Rattle.js_values.proofs.strings.refuse_long.Goals as goal

pub returns : goal.returns
returns c = built_done c.args.b.now c.is_long-long.new.p c.panic_if.new.self c.args.x c.args.y c.is_long-long.result long_test (panicked_if 6) c.is_long-long.ensures c.panic_if.ensures
