use Rattle.go_const.proofs.RangeLemmas.{sign_only}
use Rattle.go_const.proofs.shifts.right.Goals as goal

pub returns-then-count-ge127 : goal.returns-then-count-ge127
returns-then-count-ge127 c = sign_only c.args.x c.args.count c.ranges.x c.if-count-ge127.true
