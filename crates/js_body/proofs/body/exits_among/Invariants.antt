use Rattle.std.proofs.Common.{◌≡◌, drop}
use Rattle.js_body.specs.State.{exits_among}
use Rattle.js_body.proofs.body.exits_among.Given as goal

abbrev pub invariant-loop-e : goal.invariant-loop-e
invariant-loop-e l = exits_among l.label (drop l.e-index l.exits) ≡ exits_among l.label l.exits
