use Rattle.std.proofs.Common.{arith}
use Rattle.go_define.proofs.UpdateTopLemmas.{step_counts}
use Rattle.go_define.proofs.update.top.step.Goals as goal

pub returns-in-Ok : goal.returns-in-Ok
returns-in-Ok c = record {
  does = step_counts c.args.at c.args.up c.args.xs.now c.args.walk.now c.step_not.new.walk c.args.flaws.now.items c.step_not.new.flaws.items c.args.out.now.items (λ p. let h = c.if-xs-ne1.true in omega (arith, h, p)) (c.in-Ok.ensures.does c.args.out.now.items);
}
