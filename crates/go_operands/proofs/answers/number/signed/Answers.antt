use Rattle.go_typing.specs.Answer as tree
use Rattle.go_operands.specs.AnswerView.{pending_view}
use Rattle.go_operands.specs.declared.answers.answer.PendingForm.TheVariants as number
use Rattle.go_operands.proofs.Numbers.{number_made, signed_view}
use Rattle.go_operands.proofs.answers.number.signed.Goals as goal

pub returns : goal.returns
returns c = record { view = number_made c.pending.result (number.Signed c.args.op c.args.p) (λ ts. tree.signed c.args.op (pending_view ts c.args.p)) (λ ts. signed_view ts c.args.op c.args.p) c.pending.ensures.view }
