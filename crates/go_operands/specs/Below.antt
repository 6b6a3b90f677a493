-- What the rules need of ids.
use Rattle.std.specs.Prelude.{◌<◌, ℕ}
use Rattle.go_operands.specs.declared.answers.answer.Operand.{Operand}
use Rattle.go_operands.specs.declared.answers.answer.Operand.TheVariants as operand
use Rattle.go_operands.specs.declared.answers.answer.Answer.{Answer}
use Rattle.go_operands.specs.declared.answers.answer.Answer.TheVariants as answer
use Rattle.go_operands.specs.declared.answers.answer.Settled.{Settled}
use Rattle.go_operands.specs.declared.answers.answer.Settled.TheVariants as settled

-- the type of a value is one of the first n
abbrev pub OperandBelow : ℕ → Operand → Type 0
OperandBelow n (operand.Typed f) = f.ty.0 < n
OperandBelow n _ = Unit {0}

abbrev pub AnswerBelow : ℕ → Answer → Type 0
AnswerBelow n (answer.Value f) = f.ty.0 < n
AnswerBelow n (answer.Type t) = t.0 < n
AnswerBelow n _ = Unit {0}

abbrev pub SettledBelow : ℕ → Settled → Type 0
SettledBelow n (settled.Value f) = f.ty.0 < n
SettledBelow n _ = Unit {0}
