use Rattle.std.proofs.Common.{arith}
use Rattle.js_simple.proofs.Lists.{count_more, count_none}
use Rattle.js_simple.proofs.list.count.Goals as goal

pub loop-turn-init : goal.loop-turn-init
loop-turn-init c = λ s. omega arith

pub loop-turn-preserved : goal.loop-turn-preserved
loop-turn-preserved c = λ s. omega (arith, c.loop-turn.invariant s, count_more c.args.code.now c.loop-turn.list c.in-Some.cell (c.in-Some.ensures.value s))

pub returns-in-None : goal.returns-in-None
returns-in-None c = record { at_most = λ s. omega (arith, c.loop-turn.invariant s, count_none c.args.code.now c.loop-turn.list (c.in-None.ensures.value s)) }

pub returns : goal.returns
returns c = record { at_most = λ s. omega (arith, c.loop-turn.invariant s) }
