use Rattle.go_syntax.specs.View.{expr_view}
use Rattle.go_define.proofs.UpdateTopLemmas.{update_one_does}
use Rattle.go_define.proofs.update.top.update_one.Goals as goal

pub returns-in-Ok : goal.returns-in-Ok
returns-in-Ok c = record {
  does = update_one_does c.args.at c.args.op (expr_view c.args.x.now) (expr_view c.args.y.now) c.args.walk.now c.both_used.new.walk c.update_used.new.walk c.args.flaws.now.items c.update_used.new.flaws.items c.args.out.now.items c.update_used.new.out.items c.in_ok-both_used.ensures.moves c.in-Ok.ensures.does;
}
