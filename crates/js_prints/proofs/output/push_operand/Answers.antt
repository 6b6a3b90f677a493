use Rattle.std.proofs.Common.{◌++◌, ◌∙◌, ap, List, ℕ}
use Rattle.std.proofs.lemmas.Result.{on_ok_weaker}
use Rattle.js_prints.proofs.output.push_operand.Goals as goal

pub returns-clause-value : goal.returns-clause-value
returns-clause-value c = on_ok_weaker c.push_bytes.result (λ pushed ts. pushed ∙ ap (λ (bytes : List ℕ). c.args.text.now ++ bytes) (c.text_of.ensures.value ts)) c.push_bytes.ensures.value
