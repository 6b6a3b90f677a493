use Rattle.go_syntax.specs.View.{expr_view}
use Rattle.go_define.proofs.UpdateTopLemmas.{step_one_does}
use Rattle.go_define.proofs.update.top.step_one.Goals as goal

pub returns-in-Ok : goal.returns-in-Ok
returns-in-Ok c = record {
  does = step_one_does c.args.at c.step_op.result c.args.up (expr_view c.args.x.now) c.args.walk.now c.used.new.walk c.step_used.new.walk c.args.flaws.now.items c.step_used.new.flaws.items c.args.out.now.items c.step_used.new.out.items c.step_op.ensures.value c.in_ok-used.ensures.moves c.in-Ok.ensures.does;
}
