use Rattle.go_typing.specs.Answer as tree
use Rattle.go_operands.specs.declared.answers.answer.PendingForm.TheVariants as number
use Rattle.go_operands.proofs.Numbers.{number_made, fixed_view}
use Rattle.go_operands.proofs.answers.number.fixed.Goals as goal

pub returns : goal.returns
returns c = record { view = number_made c.pending.result (number.Fixed c.args.at c.args.value) (λ ts. tree.fixed c.args.at c.args.value) (λ ts. fixed_view ts c.args.at c.args.value) c.pending.ensures.view }
