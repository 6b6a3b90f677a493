use Rattle.go_type.specs.Levels.{tree_of}
use Rattle.go_core.specs.CoreTree as core
use Rattle.go_core.specs.CoreView.{expr_view}
use Rattle.go_core.specs.declared.node.CoreForm.TheVariants as node
use Rattle.go_operands.proofs.Views.{expr_made, and_then_view}
use Rattle.go_operands.proofs.nodes.pair.and_then.Goals as goal

pub returns : goal.returns
returns c = record { value = expr_made c.expression.result (node.AndThen c.args.ty c.args.left c.args.right) (λ ts. core.and_then (tree_of ts c.args.ty) (expr_view ts c.args.left) (expr_view ts c.args.right)) (λ ts. and_then_view ts c.args.ty c.args.left c.args.right) c.expression.ensures.value }
