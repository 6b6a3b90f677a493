use Rattle.std.proofs.lemmas.Result.{on_ok_weaker}
use Rattle.js_prints.proofs.Printing.{are_bytes, bytes_after}
use Rattle.js_prints.proofs.output.push_bytes.Goals as goal

pub returns-clause-bytes : goal.returns-clause-bytes
returns-clause-bytes c = on_ok_weaker c.push_bytes.result (λ pushed before. bytes_after c.args.text.now c.args.bytes.now c.push_bytes.new.self pushed (are_bytes c.args.bytes.now c.type_inv.bytes) before) c.push_bytes.ensures.value
