use Rattle.std.proofs.Common.{refl, arith}
use Rattle.go_state.specs.TasksSeen.{first_of}
use Rattle.go_state.proofs.Views.{expr_at, expr_SliceOf}
use Rattle.go_state.proofs.tasks.open_expr.open_bounds.Goals as goal

pub returns-in-SliceOf-clause-value : goal.returns-in-SliceOf-clause-value
returns-in-SliceOf-clause-value c = λ ts rest.
    let limit = c.bounded-in-SliceOf-2.ensures.value ts rest in
    let high = c.bounded-in-SliceOf.ensures.value ts (first_of ts c.bounded-in-SliceOf-2.result rest) in
    let low = c.bounded.ensures.value ts (first_of ts c.bounded-in-SliceOf.result (first_of ts c.bounded-in-SliceOf-2.result rest)) in
    rw (low, high, limit, expr_at ts c.args.e.now c.deref.result.now c.deref.ensures, expr_SliceOf ts c.deref.result.now c.in-SliceOf.from c.in-SliceOf.ty c.in-SliceOf.operand c.in-SliceOf.low c.in-SliceOf.high c.in-SliceOf.limit c.in-SliceOf.is) refl

pub returns-in-SliceOf-clause-smaller : goal.returns-in-SliceOf-clause-smaller
returns-in-SliceOf-clause-smaller c = λ ts.
    let limit = c.bounded-in-SliceOf-2.ensures.weighs ts in
    let high = c.bounded-in-SliceOf.ensures.weighs ts in
    let low = c.bounded.ensures.weighs ts in
    rw (expr_at ts c.args.e.now c.deref.result.now c.deref.ensures, expr_SliceOf ts c.deref.result.now c.in-SliceOf.from c.in-SliceOf.ty c.in-SliceOf.operand c.in-SliceOf.low c.in-SliceOf.high c.in-SliceOf.limit c.in-SliceOf.is) (omega (arith, low, high, limit))
