use Rattle.std.proofs.Common.{refl}
use Rattle.js_body.proofs.body.Body.push_known.Goals as goal

pub returns : goal.returns
returns c = (c.put.ensures.0, λ l t h s r. c.put.ensures.1 l (record { tree = t; known = c.args.known }) (record { stands = h; known = refl }) s r)
