use Rattle.go_core.specs.CoreView.{expr_view}
use Rattle.go_typing.specs.Answer as tree
use Rattle.go_operands.specs.declared.answers.answer.PendingForm.TheVariants as number
use Rattle.go_operands.proofs.Numbers.{number_made, shifted_view}
use Rattle.go_operands.proofs.answers.number.shifted.Goals as goal

pub returns : goal.returns
returns c = record { view = number_made c.pending.result (number.Shifted c.args.at c.args.op c.args.value c.args.count) (λ ts. tree.shifted c.args.at c.args.op c.args.value (expr_view ts c.args.count)) (λ ts. shifted_view ts c.args.at c.args.op c.args.value c.args.count) c.pending.ensures.view }
