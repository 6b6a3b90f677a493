use Rattle.go_core.specs.CoreTree as core
use Rattle.go_core.specs.CoreView.{expr_view}
use Rattle.go_core.specs.declared.node.CoreForm.TheVariants as node
use Rattle.go_operands.proofs.Views.{expr_made, byte_at_view}
use Rattle.go_operands.proofs.nodes.pair.byte_at.Goals as goal

pub returns : goal.returns
returns c = record { value = expr_made c.expression.result (node.ByteAt c.args.text c.args.index) (λ ts. core.byte_at (expr_view ts c.args.text) (expr_view ts c.args.index)) (λ ts. byte_at_view ts c.args.text c.args.index) c.expression.ensures.value }
