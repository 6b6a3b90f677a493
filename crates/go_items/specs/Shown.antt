-- What is found among faults that are gone through one after the other.
use Rattle.std.specs.Prelude.{List, Option, Some, None, option_map}
use Rattle.std.specs.Borrow.{Bor}
use Rattle.go_typing.specs.Answer.{Flaw}
use Rattle.go_typing.specs.Checked.{least, least_from}
use Rattle.go_operands.specs.declared.answers.answer.Flaw as answers
use Rattle.go_operands.specs.AnswerView.{flaw_view}

-- the fault that was found, if there is one
abbrev pub shown : Option (Bor answers.Flaw) → Option Flaw
shown o = option_map (λ f. flaw_view f.now) o

-- the least of what was found and those that are left
abbrev pub least_after : Option Flaw → List Flaw → Option Flaw
least_after None fs = least fs
least_after (Some f) fs = Some (least_from f fs)
