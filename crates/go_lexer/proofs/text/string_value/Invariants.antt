use Rattle.std.proofs.Common.{◌≡◌, ◌-◌, ◌++◌, drop, length}
use Rattle.go_lexer.specs.Texts.{string_from}
use Rattle.go_lexer.proofs.text.string_value.Given as goal

abbrev pub invariant-loop-n : goal.invariant-loop-n
invariant-loop-n l = string_from 0 l.body ≡ l.out.items ++ string_from 0 (drop l.n l.body)

abbrev pub decreases-loop-n : goal.decreases-loop-n
decreases-loop-n l = length l.body - l.n
