use Rattle.std.proofs.Common.{arith, sym, ◌∙◌, ◌-◌, length}
use Rattle.js_plain.proofs.Last.{ends_last, list_ends, both_end, first_goes_on}
use Rattle.js_plain.proofs.function.+ends.Goals as goal

pub ends-returns-in-len1-up : goal.ends-returns-in-len1-up
ends-returns-in-len1-up t c ts =
    c.is_end.ensures ts
    ∙ ends_last ts c.args.list.now c.as_slice.result.now (length c.as_slice.result.now - 1) c.last-item.result c.as_slice.ensures.value (omega (arith, c.in-len1-up.len_at_least))
    c.last-item.is

pub is_end-returns-in-Seq : goal.is_end-returns-in-Seq
is_end-returns-in-Seq t c ts = c.ends.ensures ts ∙ list_ends ts c.args.s.now c.deref.result.now c.in-Seq.list c.deref.ensures c.in-Seq.is

pub is_end-returns-then-ends : goal.is_end-returns-then-ends
is_end-returns-then-ends t c ts =
    c.ends-then-ends.ensures ts ∙ both_end ts c.args.s.now c.deref.result.now c.in-If.condition c.in-If.when_true c.in-If.when_false c.deref.ensures c.in-If.is (sym (c.ends-in-If.ensures ts) ∙ c.if-ends.true)

pub is_end-returns-else-ends : goal.is_end-returns-else-ends
is_end-returns-else-ends t c ts =
    c.ends-in-If.ensures ts ∙ first_goes_on ts c.args.s.now c.deref.result.now c.in-If.condition c.in-If.when_true c.in-If.when_false c.deref.ensures c.in-If.is (sym (c.ends-in-If.ensures ts) ∙ c.if-ends.false)
