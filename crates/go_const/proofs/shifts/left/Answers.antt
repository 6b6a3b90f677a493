use Rattle.go_const.proofs.RangeLemmas.{too_far_by, halves_some, halves_none}
use Rattle.go_const.proofs.shifts.left.Goals as goal

pub returns-then-count-ge128 : goal.returns-then-count-ge128
returns-then-count-ge128 c = too_far_by c.args.x c.args.count c.if-x-eq0.false c.if-count-ge128.true

pub returns-in-Some : goal.returns-in-Some
returns-in-Some c =
    halves_some c.args.x c.args.count c.power.result c.power-in-Some.result c.in-Some.part c.checked_mul.result c.checked_mul-in-Some.result
    c.ranges.x (record { sfits = c.power.type_inv }) (record { sfits = c.power-in-Some.type_inv }) c.power.ensures c.power-in-Some.ensures c.in-Some.is c.checked_mul.ensures c.checked_mul-in-Some.ensures

pub returns-in-None : goal.returns-in-None
returns-in-None c =
    halves_none c.args.x c.args.count c.power.result c.checked_mul.result
    c.ranges.x (record { sfits = c.power.type_inv }) c.power.ensures c.in-None.is c.checked_mul.ensures
