use Rattle.go_expr_steps.proofs.TreeLemmas.{and_elem}
use Rattle.go_expr_steps.proofs.part.with_element.Goals as goal

pub returns : goal.returns
returns c = record {
  value =
      and_elem c.args.elems.items c.in_ok-all.all.items c.elem-item.result c.args.key c.args.e c.in_ok-all.ensures.value c.elem-item.ensures.value;
}
