use Rattle.go_syntax.specs.View.{stmt_view}
use Rattle.go_body.proofs.LeafLemmas.{define_whole}
use Rattle.go_body.proofs.ViewLemmas.{view_Define}
use Rattle.go_body.proofs.leaf.leaf.told_define.Goals as goal

pub returns : goal.returns
returns c = record {
  does = λ post out.
      define_whole (stmt_view c.args.s.now) c.args.s.now.place c.as_slice.result.now c.as_slice-in-Define.result.now c.in-Define.xs.items c.in-Define.ys.items post c.args.walk.now c.undeclared.new.walk c.args.flaws.now.items c.undeclared.new.flaws.items out
      (view_Define c.args.s.now c.deref.result.now c.in-Define.xs c.in-Define.ys c.deref.ensures c.in-Define.is) c.as_slice.ensures.value c.as_slice-in-Define.ensures.value (c.in_ok-undeclared-in-Define.ensures.does out);
}
