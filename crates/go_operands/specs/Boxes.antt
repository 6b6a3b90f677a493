-- What an operand in a box stands for.
use Rattle.std.specs.Prelude.{ℕ, List, Option, Some, None, Box}
use Rattle.std.specs.declared.alloc.Global.{Global}
use Rattle.go_type.specs.Tree.{Ty}
use Rattle.go_typing.specs.Operand as operands
use Rattle.go_operands.specs.AnswerView.{operand_view}
use Rattle.go_operands.specs.Below.{OperandBelow}
use Rattle.go_operands.specs.declared.answers.answer.Operand.{Operand}

abbrev pub boxes_view : List Ty → Option (Box Operand Global) → Option operands.Operand
boxes_view ts None = None
boxes_view ts (Some x) = Some (operand_view ts x.value)

-- its type is one of the first n
abbrev pub BoxBelow : ℕ → Box Operand Global → Type 0
BoxBelow n x = OperandBelow n x.value
