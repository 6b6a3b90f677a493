use Rattle.std.proofs.Common.{◌≡◌, take, not}
use Rattle.std.specs.Prelude.{filter, ◌==◌}
use Rattle.go_lexer.proofs.text.raw_value.Given as goal

abbrev pub invariant-loop-b : goal.invariant-loop-b
invariant-loop-b l = l.out.items ≡ filter (λ b. not (b == 13)) (take l.b-index l.body)
