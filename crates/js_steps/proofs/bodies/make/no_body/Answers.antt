use Rattle.std.proofs.Common.{sym, subst}
use Rattle.js_simple.specs.Simple.{IsSomeCode}
use Rattle.js_steps.proofs.BodiesMade.{none_is_code}
use Rattle.js_steps.proofs.bodies.make.no_body.Goals as goal

pub of-requires : goal.of-requires
of-requires c = record { sound = subst IsSomeCode (sym c.new-code.ensures) none_is_code }

pub invariant_of-result : goal.invariant_of-result
invariant_of-result c = record { sound = ∣ subst IsSomeCode (sym c.new-code.ensures) none_is_code ∣₁; marked = c.in_ok-marks.ensures.value }
