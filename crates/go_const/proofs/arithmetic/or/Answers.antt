use Rattle.go_const.proofs.BitLemmas.{code_or}
use Rattle.go_const.proofs.arithmetic.or.Goals as goal

pub returns : goal.returns
returns c = code_or c.args.x c.args.y c.ranges.x c.ranges.y
