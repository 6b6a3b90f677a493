use Rattle.std.proofs.Common.{◌≡◌, ◌+◌, arith, List}
use Rattle.std.proofs.lemmas.Result.{IfOk-weaker}
use Rattle.go_type.specs.Tree.{Ty}
use Rattle.go_core.specs.CoreView.{callee_view, exprs_view}
use Rattle.go_core.specs.Opened as opened
use Rattle.go_entries.proofs.doing.counts.call_count.Goals as goal

pub returns : goal.returns
returns c = record {
  value =
      IfOk-weaker c.more.result (λ k. k ≡ c.callee_count.result + c.in_ok-values.values) (λ k. (ts : List Ty) → k ≡ opened.call_count (callee_view ts c.args.callee.now) (exprs_view ts c.args.es.now))
      (λ k h ts. let a = c.callee_count.ensures.value ts in let b = c.in_ok-values.ensures.value ts in omega (arith, h, a, b)) c.more.ensures.value;
}
