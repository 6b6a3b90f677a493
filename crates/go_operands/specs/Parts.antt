-- A part of a node, with its place.
use Rattle.std.specs.Prelude.{ℕ, List}
use Rattle.gj_base.specs.declared.place.Place.{Place}
use Rattle.go_type.specs.Tree.{Ty}
use Rattle.go_typing.specs.Answer.{Answer, Part}
use Rattle.go_operands.specs.AnswerView.{answer_view}
use Rattle.go_operands.specs.Below.{AnswerBelow}
use Rattle.go_operands.specs.declared.operands.part.Part as code

abbrev pub part : Place → Answer → Part
part at a = record { place = at; answer = a }

abbrev pub part_view : List Ty → code.Part → Part
part_view ts p = record { place = p.place; answer = answer_view ts p.answer }

-- its type is one of the first n
abbrev pub PartBelow : ℕ → code.Part → Type 0
PartBelow n p = AnswerBelow n p.answer
