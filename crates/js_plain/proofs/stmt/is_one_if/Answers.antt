use Rattle.std.proofs.Common.{arith, ◌∙◌}
use Rattle.js_plain.proofs.Last.{is_only, is_other}
use Rattle.js_plain.proofs.stmt.is_one_if.Goals as goal

pub returns-in-len1 : goal.returns-in-len1
returns-in-len1 c ts =
    c.is_if.ensures ts ∙ is_only ts c.args.list.now c.as_slice.result.now c.only-item.result c.as_slice.ensures.value (omega (arith, c.in-len1.len_at_least, c.in-len1.len_below)) c.only-item.is

pub returns-in_default : goal.returns-in_default
returns-in_default c ts = is_other ts c.args.list.now c.as_slice.result.now c.as_slice.ensures.value (λ e. omega (arith, e, c.in_default.len_below))

pub returns-in_default-2 : goal.returns-in_default-2
returns-in_default-2 c ts = is_other ts c.args.list.now c.as_slice.result.now c.as_slice.ensures.value (λ e. omega (arith, e, c.in_default.len_at_least))
