use Rattle.std.proofs.Common.{ap, length, sym, ◌∙◌}
use Rattle.go_state.proofs.Views.{expr_at, expr_Call, expr_Let}
use Rattle.go_entries.proofs.DoingCountLemmas.{types_counted}
use Rattle.go_entries.proofs.doing.counts.+value_count.Goals as goal

pub returns-in-Call : goal.returns-in-Call
returns-in-Call t c = record {
  value = λ ts.
      rw (expr_at ts c.args.e.now c.deref.result.now c.deref.ensures, expr_Call ts c.deref.result.now c.in-Call.results c.in-Call.callee c.in-Call.operands c.in-Call.is)
      (ap length c.as_slice.ensures ∙ sym (types_counted ts c.in-Call.results));
}

pub returns-in-Let : goal.returns-in-Let
returns-in-Let t c = record {
  value = λ ts.
      rw (expr_at ts c.args.e.now c.deref.result.now c.deref.ensures, expr_Let ts c.deref.result.now c.in-Let.vars c.in-Let.values c.in-Let.body c.in-Let.is) (c.value_count.ensures.value ts);
}
