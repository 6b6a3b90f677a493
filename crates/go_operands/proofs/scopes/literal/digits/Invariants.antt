use Rattle.std.proofs.Common.{◌≡◌, ◌≤◌, ◌^◌, drop}
use Rattle.go_typing.specs.Literal.{digits_from}
use Rattle.go_operands.specs.Whole.{cut}
use Rattle.go_operands.proofs.scopes.literal.digits.Given as goal

abbrev pub invariant-loop-b : goal.invariant-loop-b
invariant-loop-b l = record { same : cut (digits_from l.base l.value (drop l.b-index l.text)) ≡ cut (digits_from l.base 0 l.text); within : l.value ≤ 2 ^ 127 }
