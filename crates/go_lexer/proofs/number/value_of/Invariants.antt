use Rattle.std.proofs.Common.{◌≡◌, drop, true, false}
use Rattle.go_lexer.specs.Numbers.{value_from}
use Rattle.go_lexer.proofs.number.value_of.Given as goal

abbrev pub invariant-loop-b : goal.invariant-loop-b
invariant-loop-b l = value_from l.base 0 true false l.digits ≡ value_from l.base l.value l.may_separate l.may_end (drop l.b-index l.digits)
