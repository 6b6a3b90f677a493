use Rattle.go_core.specs.CoreTree as core
use Rattle.go_core.specs.CoreView.{expr_view}
use Rattle.go_define.proofs.ToldLemmas.{stmt_more}
use Rattle.go_define.proofs.simple.expression.and_performed.Goals as goal

pub returns-in_ok-and_stmt-in-Ok : goal.returns-in_ok-and_stmt-in-Ok
returns-in_ok-and_stmt-in-Ok c = record {
  core = λ ts. stmt_more ts c.args.out.now.items c.and_stmt.new.items.items c.in-Ok.stmt (core.perform (expr_view ts c.args.whole) c.args.count) c.in_ok-and_stmt-in-Ok.ensures.items (c.in-Ok.ensures.value ts);
}
