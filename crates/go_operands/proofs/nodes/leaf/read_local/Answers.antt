use Rattle.std.proofs.Common.{ap, ◌∙◌}
use Rattle.go_type.specs.Levels.{tree_of}
use Rattle.go_core.specs.CoreTree as core
use Rattle.go_core.specs.declared.node.CoreForm.TheVariants as node
use Rattle.go_operands.proofs.Views.{expr_made, read_view, local_view}
use Rattle.go_operands.proofs.nodes.leaf.read_local.Goals as goal

pub returns : goal.returns
returns c = record { value = expr_made c.expression.result (node.Read c.args.ty c.in_ok-place.place) (λ ts. core.read (tree_of ts c.args.ty) (core.local_ c.args.var.0)) (λ ts. read_view ts c.args.ty c.in_ok-place.place ∙ ap (core.read (tree_of ts c.args.ty)) (c.in_ok-place.ensures.value ts ∙ local_view ts c.args.var)) c.expression.ensures.value }
