use Rattle.std.proofs.Common.{◌∙◌, map}
use Rattle.go_core.specs.CoreTree as core
use Rattle.go_core.specs.CoreView.{expr_view, stmt_view, stmts_of}
use Rattle.go_body.proofs.LeafLemmas.{one_more}
use Rattle.go_body.proofs.leaf.made.and_choice.Goals as goal

pub returns-in_ok-and_stmt-in-Ok : goal.returns-in_ok-and_stmt-in-Ok
returns-in_ok-and_stmt-in-Ok c = record {
  core = λ ts.
      one_more ts c.args.out.now.items c.and_stmt.new.items.items c.in-Ok.whole (core.if_ (expr_view ts c.args.condition) (stmts_of (map (stmt_view ts) c.args.when_true.items)) (stmts_of (map (stmt_view ts) c.args.when_false.items))) c.in_ok-and_stmt-in-Ok.ensures.items
      (c.in-Ok.ensures.value ts ∙ (λ j. core.if_ (expr_view ts c.args.condition) (c.body.ensures.value ts j) (c.body-2.ensures.value ts j)));
}
