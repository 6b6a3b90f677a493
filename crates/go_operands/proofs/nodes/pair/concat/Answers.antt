use Rattle.go_type.specs.Levels.{tree_of}
use Rattle.go_core.specs.CoreTree as core
use Rattle.go_core.specs.CoreView.{expr_view}
use Rattle.go_core.specs.declared.node.CoreForm.TheVariants as node
use Rattle.go_operands.proofs.Views.{expr_made, concat_view}
use Rattle.go_operands.proofs.nodes.pair.concat.Goals as goal

pub returns : goal.returns
returns c = record { value = expr_made c.expression.result (node.Concat c.args.ty c.args.left c.args.right) (λ ts. core.concat (tree_of ts c.args.ty) (expr_view ts c.args.left) (expr_view ts c.args.right)) (λ ts. concat_view ts c.args.ty c.args.left c.args.right) c.expression.ensures.value }
