use Rattle.std.proofs.Common.{◌≡◌, false, take}
use Rattle.std.specs.List.{list_any}
use Rattle.js_steps.specs.Bodies.{has_name}
use Rattle.js_steps.proofs.bodies.find.named.Given as goal

-- none of the functions that were seen has the name
abbrev pub invariant-loop-body : goal.invariant-loop-body
invariant-loop-body l = list_any (has_name l.x) (take l.body-index l.functions) ≡ false
