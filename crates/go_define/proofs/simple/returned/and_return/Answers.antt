use Rattle.go_define.proofs.BackLemmas.{gives_back}
use Rattle.go_define.proofs.simple.returned.and_return.Goals as goal

pub returns-in_ok-and_stmt-in-Ok : goal.returns-in_ok-and_stmt-in-Ok
returns-in_ok-and_stmt-in-Ok c = record {
  core = gives_back c.args.out.now.items c.and_stmt.new.items.items c.in-Ok.stmt c.values.result c.args.values.items c.in_ok-and_stmt-in-Ok.ensures.items c.in-Ok.ensures.value c.values.ensures.value;
}
