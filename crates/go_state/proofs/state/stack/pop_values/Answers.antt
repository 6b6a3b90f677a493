use Rattle.std.proofs.Common.{arith, ◌-◌}
use Rattle.go_state.proofs.StackLemmas.{stack_split, stack_few}
use Rattle.go_state.proofs.state.stack.pop_values.Goals as goal

pub returns-then-count-held : goal.returns-then-count-held
returns-then-count-held c = record {
  value = λ ts. stack_few ts c.args.values.now.items c.args.count (let counted = c.args.values.now.ok.0 in omega (arith, c.if-count-held.true, c.len-held.ensures, counted));
}

pub returns : goal.returns
returns c = record {
  value = λ ts.
      stack_split ts c.args.values.now.items _ _ c.args.count (c.len-held.result - c.args.count)
      (let counted = c.args.values.now.ok.0 in omega (arith, c.if-count-held.false, c.len-held.ensures, counted))
      c.in_ok-operands.ensures.items c.in_ok-operands.ensures.tail;
}
