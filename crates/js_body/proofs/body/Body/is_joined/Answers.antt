use Rattle.std.proofs.Common.{◌∙◌}
use Rattle.js_body.proofs.Steps.{joins_shown}
use Rattle.js_body.proofs.body.Body.is_joined.Goals as goal

pub returns : goal.returns
returns c t h = c.joins.ensures ∙ joins_shown (c.node.ensures t h)
