use Rattle.go_typing.specs.Answer as tree
use Rattle.go_operands.specs.AnswerView.{pending_view}
use Rattle.go_operands.specs.declared.answers.answer.PendingForm.TheVariants as number
use Rattle.go_operands.proofs.Numbers.{number_made, joined_view}
use Rattle.go_operands.proofs.answers.number.joined.Goals as goal

pub returns : goal.returns
returns c = record { view = number_made c.pending.result (number.Joined c.args.op c.args.x c.args.y) (λ ts. tree.joined c.args.op (pending_view ts c.args.x) (pending_view ts c.args.y)) (λ ts. joined_view ts c.args.op c.args.x c.args.y) c.pending.ensures.view }
