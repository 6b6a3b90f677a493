use Rattle.go_core.specs.CoreTree as core
use Rattle.go_body.proofs.LeafLemmas.{one_more}
use Rattle.go_body.proofs.leaf.stand.and_nothing.Goals as goal

pub returns-in_ok-and_stmt-in-Ok : goal.returns-in_ok-and_stmt-in-Ok
returns-in_ok-and_stmt-in-Ok c = record {
  core = λ ts. one_more ts c.args.out.now.items c.and_stmt.new.items.items c.in-Ok.whole (core.sequence core.no_stmts) c.in_ok-and_stmt-in-Ok.ensures.items (c.in-Ok.ensures.value ts);
}
