use Rattle.go_lines.proofs.Whole.{plain_is_right, plain_prints, plain_only_prints}
use Rattle.go_lines.proofs.laws.plain.Goals as goal

pub returns : goal.returns
returns c = record { right = plain_is_right; prints = plain_prints; alone = plain_only_prints }
