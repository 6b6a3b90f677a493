use Rattle.std.proofs.Common.{arith}
use Rattle.go_define.proofs.UpdateTopLemmas.{update_counts}
use Rattle.go_define.proofs.update.top.update.Goals as goal

pub returns-in-Ok : goal.returns-in-Ok
returns-in-Ok c = record {
  does = update_counts c.args.at c.args.op c.args.xs.now c.args.ys.now c.args.walk.now c.update_not.new.walk c.args.flaws.now.items c.update_not.new.flaws.items c.args.out.now.items (λ p q. let h = c.if-xs-ne1.true in omega (arith, h, p)) (c.in-Ok.ensures.does c.args.out.now.items);
}

pub returns-in-Ok-update_not : goal.returns-in-Ok-update_not
returns-in-Ok-update_not c = record {
  does = update_counts c.args.at c.args.op c.args.xs.now c.args.ys.now c.args.walk.now c.update_not-then-ys-ne1.new.walk c.args.flaws.now.items c.update_not-then-ys-ne1.new.flaws.items c.args.out.now.items (λ p q. let h = c.if-ys-ne1.true in omega (arith, h, q)) (c.in-Ok-update_not.ensures.does c.args.out.now.items);
}
