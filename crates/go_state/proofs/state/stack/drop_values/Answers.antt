use Rattle.std.proofs.Common.{arith, ◌-◌}
use Rattle.go_state.proofs.StackLemmas.{stack_kept, stack_cleared}
use Rattle.go_state.proofs.state.stack.drop_values.Goals as goal

pub returns-then-count-held : goal.returns-then-count-held
returns-then-count-held c = record {
  value = λ ts. stack_cleared ts c.args.values.now.items _ c.args.count (let counted = c.args.values.now.ok.0 in omega (arith, c.if-count-held.true, c.len-held.ensures, counted)) c.clear.ensures.items;
}

pub returns : goal.returns
returns c = record {
  value = λ ts.
      stack_kept ts c.args.values.now.items _ c.args.count (c.len-held.result - c.args.count)
      (let counted = c.args.values.now.ok.0 in omega (arith, c.if-count-held.false, c.len-held.ensures, counted))
      c.truncate.ensures.items;
}
