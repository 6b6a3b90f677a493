use Rattle.go_const.proofs.BitLemmas.{code_and}
use Rattle.go_const.proofs.arithmetic.and.Goals as goal

pub returns : goal.returns
returns c = code_and c.args.x c.args.y c.ranges.x c.ranges.y
