use Rattle.std.proofs.Common.{ap, arith}
use Rattle.go_core.specs.Opened as opened
use Rattle.go_core.specs.declared.statement.CoreCases.{out-CoreCases}
use Rattle.go_state.proofs.ListsLemmas.{cases_whole}
use Rattle.go_entries.proofs.DoingCountLemmas.{cases_step, cases_done}
use Rattle.go_entries.proofs.doing.counts.cases_count.Goals as goal

pub clauses-init : goal.clauses-init
clauses-init c = λ ts. let e = ap opened.cases_count (cases_whole ts c.args.cases.now) in omega (arith, e)

pub clauses-preserved : goal.clauses-preserved
clauses-preserved c = λ ts.
    cases_step ts c.args.cases.now c.clauses.i c.index.result.now c.clauses.count _ c.communication_count.result _
    (let counted = (out-CoreCases c.args.cases.now).items.ok.0 in omega (arith, c.clauses-test.true, c.len-i-end.ensures, counted))
    c.index.ensures (c.communication_count.ensures.value ts) c.in_ok-count.ensures.value (c.clauses.invariant ts)

pub returns : goal.returns
returns c = record {
  value = λ ts.
      cases_done ts c.args.cases.now c.clauses.i c.clauses.count _
      (let counted = (out-CoreCases c.args.cases.now).items.ok.0 in omega (arith, c.clauses-test.false, c.len-i-end.ensures, counted))
      (c.clauses.invariant ts);
}
