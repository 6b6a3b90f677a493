use Rattle.js_run.proofs.Lists.{next_first, all_firsts}
use Rattle.js_run.proofs.whole.prepare.firsts_of.Goals as goal

pub loop-item-preserved : goal.loop-item-preserved
loop-item-preserved c = λ script n.
    next_first script c.args.items.now c.loop-item.item-index c.item-item.result c.loop-item.made.items c.add_first.new.made.items c.loop-item-test.true c.item-item.is (c.loop-item.invariant script n)
    (c.in_ok-add_first.ensures.value script n)

pub returns : goal.returns
returns c = record {
  value = λ script n. all_firsts script c.args.items.now c.loop-item.item-index c.loop-item.made.items c.loop-item-test.false (c.loop-item.invariant script n);
}
