use Rattle.go_type.specs.Levels.{tree_of}
use Rattle.go_core.specs.CoreTree as core
use Rattle.go_core.specs.CoreView.{expr_view}
use Rattle.go_core.specs.declared.node.CoreForm.TheVariants as node
use Rattle.go_operands.proofs.Views.{expr_made, len_view}
use Rattle.go_operands.proofs.nodes.node.len.Goals as goal

pub returns : goal.returns
returns c = record { value = expr_made c.expression.result (node.Len c.args.from c.args.e) (λ ts. core.len (tree_of ts c.args.from) (expr_view ts c.args.e)) (λ ts. len_view ts c.args.from c.args.e) c.expression.ensures.value }
