use Rattle.go_type.specs.Levels.{tree_of}
use Rattle.go_core.specs.CoreTree as core
use Rattle.go_core.specs.declared.node.CoreForm.TheVariants as node
use Rattle.go_operands.proofs.Views.{expr_made, zero_view}
use Rattle.go_operands.proofs.nodes.leaf.zero.Goals as goal

pub returns : goal.returns
returns c = record { value = expr_made c.expression.result (node.Zero c.args.ty) (λ ts. core.zero_value (tree_of ts c.args.ty)) (λ ts. zero_view ts c.args.ty) c.expression.ensures.value }
