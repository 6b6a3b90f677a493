use Rattle.std.proofs.Common.{ap, ◌∙◌, rules}
use Rattle.go_type.specs.Levels.{tree_of}
use Rattle.go_core.specs.CoreTree as core
use Rattle.go_core.specs.declared.node.Constant.TheVariants as held
use Rattle.go_core.specs.declared.node.CoreForm.TheVariants as node
use Rattle.go_operands.proofs.Views.{expr_made, constant_view}
use Rattle.go_operands.proofs.nodes.leaf.text.Goals as goal

pub returns : goal.returns
returns c = let kept = c.in_ok-bytes.ensures.value in
    let seen = c.as_bytes.ensures in
    record { value = expr_made c.expression.result (node.Const c.args.ty (held.Text c.in_ok-bytes.bytes)) (λ ts. core.constant (tree_of ts c.args.ty) (core.text_constant c.args.bytes.now)) (λ ts. constant_view ts c.args.ty (held.Text c.in_ok-bytes.bytes) ∙ ap (λ z. core.constant (tree_of ts c.args.ty) (core.text_constant z)) (first_of (cc, search (rules, kept, seen)))) c.expression.ensures.value }
