use Rattle.std.proofs.Common.{◌∙◌, map}
use Rattle.std.specs.Prelude.{option_map}
use Rattle.go_core.specs.CoreTree as core
use Rattle.go_core.specs.CoreView.{expr_view, bound_of, stmt_view, stmts_of}
use Rattle.go_body.proofs.LeafLemmas.{one_more}
use Rattle.go_body.proofs.leaf.made.and_loop.Goals as goal

pub returns-in_ok-and_stmt-in-Ok : goal.returns-in_ok-and_stmt-in-Ok
returns-in_ok-and_stmt-in-Ok c = record {
  core = λ ts.
      one_more ts c.args.out.now.items c.and_stmt.new.items.items c.in-Ok.whole
      (core.loop c.args.label.0 (bound_of (option_map (expr_view ts) c.args.condition)) (stmts_of (map (stmt_view ts) c.args.inside.items)) (stmts_of (map (stmt_view ts) c.args.after.items))) c.in_ok-and_stmt-in-Ok.ensures.items
      (c.in-Ok.ensures.value ts ∙ (λ j. core.loop c.args.label.0 (bound_of (option_map (expr_view ts) c.args.condition)) (c.body.ensures.value ts j) (c.body-2.ensures.value ts j)));
}
