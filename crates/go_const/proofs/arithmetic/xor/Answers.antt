use Rattle.go_const.proofs.BitLemmas.{code_xor}
use Rattle.go_const.proofs.arithmetic.xor.Goals as goal

pub returns : goal.returns
returns c = code_xor c.args.x c.args.y c.ranges.x c.ranges.y
