use Rattle.go_type.specs.Levels.{tree_of}
use Rattle.go_core.specs.CoreTree as core
use Rattle.go_core.specs.CoreView.{expr_view}
use Rattle.go_core.specs.declared.node.CoreForm.TheVariants as node
use Rattle.go_operands.proofs.Views.{expr_made, convert_view}
use Rattle.go_operands.proofs.nodes.node.convert.Goals as goal

pub returns : goal.returns
returns c = record { value = expr_made c.expression.result (node.Convert c.args.from c.args.ty c.args.e) (λ ts. core.convert (tree_of ts c.args.from) (tree_of ts c.args.ty) (expr_view ts c.args.e)) (λ ts. convert_view ts c.args.from c.args.ty c.args.e) c.expression.ensures.value }
