use Rattle.go_type.specs.Levels.{tree_of}
use Rattle.go_core.specs.CoreTree as core
use Rattle.go_core.specs.CoreView.{expr_view}
use Rattle.go_core.specs.declared.node.CoreForm.TheVariants as node
use Rattle.go_operands.proofs.Views.{expr_made, unary_view}
use Rattle.go_operands.proofs.nodes.node.unary.Goals as goal

pub returns : goal.returns
returns c = record { value = expr_made c.expression.result (node.Unary c.args.op c.args.ty c.args.e) (λ ts. core.unary c.args.op (tree_of ts c.args.ty) (expr_view ts c.args.e)) (λ ts. unary_view ts c.args.op c.args.ty c.args.e) c.expression.ensures.value }
