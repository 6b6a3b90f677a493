-- What the count of a shift stands for.
use Rattle.std.specs.Prelude.{List, Bool, true, false}
use Rattle.go_type.specs.Tree.{Ty}
use Rattle.go_core.specs.CoreView.{expr_view}
use Rattle.go_typing.specs.Operand.{Operand, nil_operand}
use Rattle.go_typing.specs.Shift as shifts
use Rattle.go_operands.specs.AnswerView.{flaws_view, first_of, others_of}
use Rattle.go_binary.specs.declared.shifts.count.Count.{Count}
use Rattle.go_binary.specs.declared.shifts.count.Count.TheVariants as counts

abbrev pub count_view : List Ty → Count → shifts.Count
count_view ts (counts.Counted c v) = shifts.counted (expr_view ts c) v
count_view ts counts.Negative = shifts.negative
count_view ts counts.NoInteger = shifts.no_integer
count_view ts (counts.Unfit fs) = shifts.unfit (first_of (flaws_view fs)) (others_of (flaws_view fs))

-- without a type
abbrev pub is_nil : Operand → Bool
is_nil nil_operand = true
is_nil x = false
