use Rattle.std.proofs.Common.{◌∙◌}
use Rattle.js_body.proofs.Steps.{operation_shown}
use Rattle.js_body.proofs.body.Body.is_operation.Goals as goal

pub returns : goal.returns
returns c t h = c.does_operation.ensures ∙ operation_shown (c.node.ensures t h)
