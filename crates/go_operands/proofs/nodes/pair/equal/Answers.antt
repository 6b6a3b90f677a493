use Rattle.go_type.specs.Levels.{tree_of}
use Rattle.go_core.specs.CoreTree as core
use Rattle.go_core.specs.CoreView.{expr_view}
use Rattle.go_core.specs.declared.node.CoreForm.TheVariants as node
use Rattle.go_operands.proofs.Views.{expr_made, equal_view}
use Rattle.go_operands.proofs.nodes.pair.equal.Goals as goal

pub returns : goal.returns
returns c = record { value = expr_made c.expression.result (node.Equal c.args.negated c.args.operands c.args.ty c.args.left c.args.right) (λ ts. core.equal c.args.negated (tree_of ts c.args.operands) (tree_of ts c.args.ty) (expr_view ts c.args.left) (expr_view ts c.args.right)) (λ ts. equal_view ts c.args.negated c.args.operands c.args.ty c.args.left c.args.right) c.expression.ensures.value }
