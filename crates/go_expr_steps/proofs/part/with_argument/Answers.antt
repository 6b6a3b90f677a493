use Rattle.go_expr_steps.proofs.TreeLemmas.{and_expr}
use Rattle.go_expr_steps.proofs.part.with_argument.Goals as goal

pub returns : goal.returns
returns c = record {
  value =
      and_expr c.args.args.items c.in_ok-all.all.items c.args.e c.in_ok-all.ensures.value;
}
