use Rattle.go_type.specs.Levels.{tree_of}
use Rattle.go_core.specs.CoreTree as core
use Rattle.go_core.specs.declared.node.Constant.TheVariants as held
use Rattle.go_core.specs.declared.node.CoreForm.TheVariants as node
use Rattle.go_operands.proofs.Views.{expr_made, constant_view}
use Rattle.go_operands.proofs.nodes.leaf.truth.Goals as goal

pub returns : goal.returns
returns c = record { value = expr_made c.expression.result (node.Const c.args.ty (held.Bool c.args.value)) (λ ts. core.constant (tree_of ts c.args.ty) (core.truth_constant c.args.value)) (λ ts. constant_view ts c.args.ty (held.Bool c.args.value)) c.expression.ensures.value }
