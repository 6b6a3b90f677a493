use Rattle.std.proofs.Common.{refl, ap, sym, arith, ◌+◌}
use Rattle.go_core.specs.Opened.{cases_first}
use Rattle.go_core.specs.CoreView.{expr_view}
use Rattle.go_core.specs.declared.statement.CoreCases.{out-CoreCases}
use Rattle.go_core.specs.declared.statement.Communication.TheVariants as communication
use Rattle.go_state.specs.TasksSeen.{cases_from}
use Rattle.go_state.specs.Weight.{expr_weight, cases_weight}
use Rattle.go_state.proofs.ListsLemmas.{case_next, two_less, three_less}
use Rattle.go_state.proofs.tasks.open_lists.open_cases.Goals as goal

pub returns-in-Send-clause-value : goal.returns-in-Send-clause-value
returns-in-Send-clause-value c = λ ts rest. ap (λ cs. cases_first cs rest) (sym (case_next ts c.args.list.now (out-CoreCases c.args.list.now).items.items c.args.at c.index.result.now (communication.Send c.in-Send.channel c.in-Send.operand c.in-Send.value) refl (let counted = (out-CoreCases c.args.list.now).items.ok.0 in omega (arith, c.if-at-len.false, c.len.ensures, counted)) c.index.ensures c.in-Send.is))

pub returns-in-Send-clause-smaller : goal.returns-in-Send-clause-smaller
returns-in-Send-clause-smaller c = λ ts. three_less (expr_weight (expr_view ts c.in-Send.operand)) (expr_weight (expr_view ts c.in-Send.value)) (cases_weight (cases_from ts c.args.list.now (c.args.at + 1))) (cases_weight (cases_from ts c.args.list.now c.args.at)) (ap cases_weight (case_next ts c.args.list.now (out-CoreCases c.args.list.now).items.items c.args.at c.index.result.now (communication.Send c.in-Send.channel c.in-Send.operand c.in-Send.value) refl (let counted = (out-CoreCases c.args.list.now).items.ok.0 in omega (arith, c.if-at-len.false, c.len.ensures, counted)) c.index.ensures c.in-Send.is))

pub returns-in-Receive-clause-value : goal.returns-in-Receive-clause-value
returns-in-Receive-clause-value c = λ ts rest. ap (λ cs. cases_first cs rest) (sym (case_next ts c.args.list.now (out-CoreCases c.args.list.now).items.items c.args.at c.index.result.now (communication.Receive c.in-Receive.channel c.in-Receive.operand c.in-Receive.vars) refl (let counted = (out-CoreCases c.args.list.now).items.ok.0 in omega (arith, c.if-at-len.false, c.len.ensures, counted)) c.index.ensures c.in-Receive.is))

pub returns-in-Receive-clause-smaller : goal.returns-in-Receive-clause-smaller
returns-in-Receive-clause-smaller c = λ ts. two_less (expr_weight (expr_view ts c.in-Receive.operand)) (cases_weight (cases_from ts c.args.list.now (c.args.at + 1))) (cases_weight (cases_from ts c.args.list.now c.args.at)) (ap cases_weight (case_next ts c.args.list.now (out-CoreCases c.args.list.now).items.items c.args.at c.index.result.now (communication.Receive c.in-Receive.channel c.in-Receive.operand c.in-Receive.vars) refl (let counted = (out-CoreCases c.args.list.now).items.ok.0 in omega (arith, c.if-at-len.false, c.len.ensures, counted)) c.index.ensures c.in-Receive.is))
