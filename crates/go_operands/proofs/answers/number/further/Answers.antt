use Rattle.go_core.specs.CoreView.{expr_view}
use Rattle.go_typing.specs.Answer as tree
use Rattle.go_operands.specs.AnswerView.{pending_view}
use Rattle.go_operands.specs.declared.answers.answer.PendingForm.TheVariants as number
use Rattle.go_operands.proofs.Numbers.{number_made, further_view}
use Rattle.go_operands.proofs.answers.number.further.Goals as goal

pub returns : goal.returns
returns c = record { view = number_made c.pending.result (number.Further c.args.op c.args.p c.args.count) (λ ts. tree.further c.args.op (pending_view ts c.args.p) (expr_view ts c.args.count)) (λ ts. further_view ts c.args.op c.args.p c.args.count) c.pending.ensures.view }
