use Rattle.std.proofs.Common.{sym, ◌∙◌}
use Rattle.js_steps.proofs.Entered.{wrong_count, right_count, no_tick}
use Rattle.js_steps.proofs.calls.function.call_function.Goals as goal

pub returns-then-len-body : goal.returns-then-len-body
returns-then-len-body c = record {
  keeps = λ f script choices fuel b vs isf h.
      wrong_count script choices fuel b vs c.args.stack.now.items c.args.state.now f c.args.body.now c.args.at c.args.usage c.args.values.items (λ e. c.if-len-body.true (c.len.ensures ∙ c.args.values.ok.0 ∙ e)) isf;
}

pub returns : goal.returns
returns c = record {
  keeps = λ f script choices fuel b vs isf h.
      right_count script choices fuel b vs c.args.stack.now.items c.args.state.now c.tick.new.state c.enter.new.state c.enter.new.stack.items c.enter.result f c.args.body.now c.args.at c.args.usage c.args.values.items
      c.in_ok-tick.ensures.ticks (sym (c.len.ensures ∙ c.args.values.ok.0) ∙ c.if-len-body.false) isf h (c.enter.ensures.keeps f);
}

pub returns-in_err-tick : goal.returns-in_err-tick
returns-in_err-tick c = record {
  keeps = λ f script choices fuel b vs isf h.
      no_tick script choices fuel b vs c.args.stack.now.items c.args.state.now c.tick.new.state c.from_residual.result _ f c.args.body.now c.args.at c.args.usage c.args.values.items
      c.in_err-tick.ensures.ticks (sym (c.len.ensures ∙ c.args.values.ok.0) ∙ c.if-len-body.false) c.from_residual.ensures.1 isf;
}
