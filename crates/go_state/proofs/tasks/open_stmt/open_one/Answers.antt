use Rattle.std.proofs.Common.{refl, arith}
use Rattle.go_core.specs.declared.statement.CoreStmts.{out-CoreStmts}
use Rattle.go_state.proofs.ListsLemmas.{stmt_here, stmts_whole, exprs_whole, clauses_whole, cases_whole}
use Rattle.go_state.proofs.Views.{stmt_at, stmt_Seq, stmt_Perform, stmt_Declare, stmt_Store, stmt_MapDelete, stmt_If, stmt_Loop, stmt_SwitchOn, stmt_RangeNext, stmt_Labeled, stmt_Branch, stmt_Send, stmt_Close, stmt_SelectStep, stmt_GateTake, stmt_GateAwait, stmt_Yield, stmt_GoCall, stmt_DeferCall, stmt_Return, stmt_Panic, stmt_Print, stmt_Exit, stmt_Fatal}
use Rattle.go_state.proofs.tasks.open_stmt.open_one.Goals as goal

pub returns-in-Seq-clause-value : goal.returns-in-Seq-clause-value
returns-in-Seq-clause-value c = λ ts rest. rw (stmt_here ts c.args.list.now (out-CoreStmts c.args.list.now).items.items c.args.at c.index.result.now refl (let counted = (out-CoreStmts c.args.list.now).items.ok.0 in omega (arith, c.if-at-len.false, c.len.ensures, counted)) c.index.ensures, stmt_at ts c.index.result.now c.deref.result.now c.deref.ensures, stmt_Seq ts c.deref.result.now c.in-Seq.ss c.in-Seq.is, stmts_whole ts c.in-Seq.ss) refl

pub returns-in-Seq-clause-smaller : goal.returns-in-Seq-clause-smaller
returns-in-Seq-clause-smaller c = λ ts. rw (stmt_here ts c.args.list.now (out-CoreStmts c.args.list.now).items.items c.args.at c.index.result.now refl (let counted = (out-CoreStmts c.args.list.now).items.ok.0 in omega (arith, c.if-at-len.false, c.len.ensures, counted)) c.index.ensures, stmt_at ts c.index.result.now c.deref.result.now c.deref.ensures, stmt_Seq ts c.deref.result.now c.in-Seq.ss c.in-Seq.is, stmts_whole ts c.in-Seq.ss) (omega arith)

pub returns-in-Perform-clause-value : goal.returns-in-Perform-clause-value
returns-in-Perform-clause-value c = λ ts rest. rw (stmt_here ts c.args.list.now (out-CoreStmts c.args.list.now).items.items c.args.at c.index.result.now refl (let counted = (out-CoreStmts c.args.list.now).items.ok.0 in omega (arith, c.if-at-len.false, c.len.ensures, counted)) c.index.ensures, stmt_at ts c.index.result.now c.deref.result.now c.deref.ensures, stmt_Perform ts c.deref.result.now c.in-Perform.operand c.in-Perform.values c.in-Perform.is) refl

pub returns-in-Perform-clause-smaller : goal.returns-in-Perform-clause-smaller
returns-in-Perform-clause-smaller c = λ ts. rw (stmt_here ts c.args.list.now (out-CoreStmts c.args.list.now).items.items c.args.at c.index.result.now refl (let counted = (out-CoreStmts c.args.list.now).items.ok.0 in omega (arith, c.if-at-len.false, c.len.ensures, counted)) c.index.ensures, stmt_at ts c.index.result.now c.deref.result.now c.deref.ensures, stmt_Perform ts c.deref.result.now c.in-Perform.operand c.in-Perform.values c.in-Perform.is) (omega arith)

pub returns-in-Declare-clause-value : goal.returns-in-Declare-clause-value
returns-in-Declare-clause-value c = λ ts rest. rw (stmt_here ts c.args.list.now (out-CoreStmts c.args.list.now).items.items c.args.at c.index.result.now refl (let counted = (out-CoreStmts c.args.list.now).items.ok.0 in omega (arith, c.if-at-len.false, c.len.ensures, counted)) c.index.ensures, stmt_at ts c.index.result.now c.deref.result.now c.deref.ensures, stmt_Declare ts c.deref.result.now c.in-Declare.field-0 c.in-Declare.is) refl

pub returns-in-Declare-clause-smaller : goal.returns-in-Declare-clause-smaller
returns-in-Declare-clause-smaller c = λ ts. rw (stmt_here ts c.args.list.now (out-CoreStmts c.args.list.now).items.items c.args.at c.index.result.now refl (let counted = (out-CoreStmts c.args.list.now).items.ok.0 in omega (arith, c.if-at-len.false, c.len.ensures, counted)) c.index.ensures, stmt_at ts c.index.result.now c.deref.result.now c.deref.ensures, stmt_Declare ts c.deref.result.now c.in-Declare.field-0 c.in-Declare.is) (omega arith)

pub returns-in-Store-clause-value : goal.returns-in-Store-clause-value
returns-in-Store-clause-value c = λ ts rest. rw (stmt_here ts c.args.list.now (out-CoreStmts c.args.list.now).items.items c.args.at c.index.result.now refl (let counted = (out-CoreStmts c.args.list.now).items.ok.0 in omega (arith, c.if-at-len.false, c.len.ensures, counted)) c.index.ensures, stmt_at ts c.index.result.now c.deref.result.now c.deref.ensures, stmt_Store ts c.deref.result.now c.in-Store.targets c.in-Store.values c.in-Store.is, exprs_whole ts c.in-Store.values) refl

pub returns-in-Store-clause-smaller : goal.returns-in-Store-clause-smaller
returns-in-Store-clause-smaller c = λ ts. rw (stmt_here ts c.args.list.now (out-CoreStmts c.args.list.now).items.items c.args.at c.index.result.now refl (let counted = (out-CoreStmts c.args.list.now).items.ok.0 in omega (arith, c.if-at-len.false, c.len.ensures, counted)) c.index.ensures, stmt_at ts c.index.result.now c.deref.result.now c.deref.ensures, stmt_Store ts c.deref.result.now c.in-Store.targets c.in-Store.values c.in-Store.is, exprs_whole ts c.in-Store.values) (omega arith)

pub returns-in-MapDelete-clause-value : goal.returns-in-MapDelete-clause-value
returns-in-MapDelete-clause-value c = λ ts rest. rw (stmt_here ts c.args.list.now (out-CoreStmts c.args.list.now).items.items c.args.at c.index.result.now refl (let counted = (out-CoreStmts c.args.list.now).items.ok.0 in omega (arith, c.if-at-len.false, c.len.ensures, counted)) c.index.ensures, stmt_at ts c.index.result.now c.deref.result.now c.deref.ensures, stmt_MapDelete ts c.deref.result.now c.in-MapDelete.map_type c.in-MapDelete.operand c.in-MapDelete.key c.in-MapDelete.is) refl

pub returns-in-MapDelete-clause-smaller : goal.returns-in-MapDelete-clause-smaller
returns-in-MapDelete-clause-smaller c = λ ts. rw (stmt_here ts c.args.list.now (out-CoreStmts c.args.list.now).items.items c.args.at c.index.result.now refl (let counted = (out-CoreStmts c.args.list.now).items.ok.0 in omega (arith, c.if-at-len.false, c.len.ensures, counted)) c.index.ensures, stmt_at ts c.index.result.now c.deref.result.now c.deref.ensures, stmt_MapDelete ts c.deref.result.now c.in-MapDelete.map_type c.in-MapDelete.operand c.in-MapDelete.key c.in-MapDelete.is) (omega arith)

pub returns-in-If-clause-value : goal.returns-in-If-clause-value
returns-in-If-clause-value c = λ ts rest. rw (stmt_here ts c.args.list.now (out-CoreStmts c.args.list.now).items.items c.args.at c.index.result.now refl (let counted = (out-CoreStmts c.args.list.now).items.ok.0 in omega (arith, c.if-at-len.false, c.len.ensures, counted)) c.index.ensures, stmt_at ts c.index.result.now c.deref.result.now c.deref.ensures, stmt_If ts c.deref.result.now c.in-If.condition c.in-If.when_true c.in-If.when_false c.in-If.is) refl

pub returns-in-If-clause-smaller : goal.returns-in-If-clause-smaller
returns-in-If-clause-smaller c = λ ts. rw (stmt_here ts c.args.list.now (out-CoreStmts c.args.list.now).items.items c.args.at c.index.result.now refl (let counted = (out-CoreStmts c.args.list.now).items.ok.0 in omega (arith, c.if-at-len.false, c.len.ensures, counted)) c.index.ensures, stmt_at ts c.index.result.now c.deref.result.now c.deref.ensures, stmt_If ts c.deref.result.now c.in-If.condition c.in-If.when_true c.in-If.when_false c.in-If.is) (omega arith)

pub returns-in-Loop-clause-value : goal.returns-in-Loop-clause-value
returns-in-Loop-clause-value c = λ ts rest. rw (stmt_here ts c.args.list.now (out-CoreStmts c.args.list.now).items.items c.args.at c.index.result.now refl (let counted = (out-CoreStmts c.args.list.now).items.ok.0 in omega (arith, c.if-at-len.false, c.len.ensures, counted)) c.index.ensures, stmt_at ts c.index.result.now c.deref.result.now c.deref.ensures, stmt_Loop ts c.deref.result.now c.in-Loop.label c.in-Loop.condition c.in-Loop.body c.in-Loop.post c.in-Loop.is) refl

pub returns-in-Loop-clause-smaller : goal.returns-in-Loop-clause-smaller
returns-in-Loop-clause-smaller c = λ ts. rw (stmt_here ts c.args.list.now (out-CoreStmts c.args.list.now).items.items c.args.at c.index.result.now refl (let counted = (out-CoreStmts c.args.list.now).items.ok.0 in omega (arith, c.if-at-len.false, c.len.ensures, counted)) c.index.ensures, stmt_at ts c.index.result.now c.deref.result.now c.deref.ensures, stmt_Loop ts c.deref.result.now c.in-Loop.label c.in-Loop.condition c.in-Loop.body c.in-Loop.post c.in-Loop.is) (omega arith)

pub returns-in-SwitchOn-clause-value : goal.returns-in-SwitchOn-clause-value
returns-in-SwitchOn-clause-value c = λ ts rest. rw (stmt_here ts c.args.list.now (out-CoreStmts c.args.list.now).items.items c.args.at c.index.result.now refl (let counted = (out-CoreStmts c.args.list.now).items.ok.0 in omega (arith, c.if-at-len.false, c.len.ensures, counted)) c.index.ensures, stmt_at ts c.index.result.now c.deref.result.now c.deref.ensures, stmt_SwitchOn ts c.deref.result.now c.in-SwitchOn.label c.in-SwitchOn.tests c.in-SwitchOn.clauses c.in-SwitchOn.default c.in-SwitchOn.is, clauses_whole ts c.in-SwitchOn.clauses) refl

pub returns-in-SwitchOn-clause-smaller : goal.returns-in-SwitchOn-clause-smaller
returns-in-SwitchOn-clause-smaller c = λ ts. rw (stmt_here ts c.args.list.now (out-CoreStmts c.args.list.now).items.items c.args.at c.index.result.now refl (let counted = (out-CoreStmts c.args.list.now).items.ok.0 in omega (arith, c.if-at-len.false, c.len.ensures, counted)) c.index.ensures, stmt_at ts c.index.result.now c.deref.result.now c.deref.ensures, stmt_SwitchOn ts c.deref.result.now c.in-SwitchOn.label c.in-SwitchOn.tests c.in-SwitchOn.clauses c.in-SwitchOn.default c.in-SwitchOn.is) (omega arith)

pub returns-in-RangeNext-clause-value : goal.returns-in-RangeNext-clause-value
returns-in-RangeNext-clause-value c = λ ts rest. rw (stmt_here ts c.args.list.now (out-CoreStmts c.args.list.now).items.items c.args.at c.index.result.now refl (let counted = (out-CoreStmts c.args.list.now).items.ok.0 in omega (arith, c.if-at-len.false, c.len.ensures, counted)) c.index.ensures, stmt_at ts c.index.result.now c.deref.result.now c.deref.ensures, stmt_RangeNext ts c.deref.result.now c.in-RangeNext.label c.in-RangeNext.from c.in-RangeNext.operand c.in-RangeNext.key c.in-RangeNext.value c.in-RangeNext.body c.in-RangeNext.is) refl

pub returns-in-RangeNext-clause-smaller : goal.returns-in-RangeNext-clause-smaller
returns-in-RangeNext-clause-smaller c = λ ts. rw (stmt_here ts c.args.list.now (out-CoreStmts c.args.list.now).items.items c.args.at c.index.result.now refl (let counted = (out-CoreStmts c.args.list.now).items.ok.0 in omega (arith, c.if-at-len.false, c.len.ensures, counted)) c.index.ensures, stmt_at ts c.index.result.now c.deref.result.now c.deref.ensures, stmt_RangeNext ts c.deref.result.now c.in-RangeNext.label c.in-RangeNext.from c.in-RangeNext.operand c.in-RangeNext.key c.in-RangeNext.value c.in-RangeNext.body c.in-RangeNext.is) (omega arith)

pub returns-in-Labeled-clause-value : goal.returns-in-Labeled-clause-value
returns-in-Labeled-clause-value c = λ ts rest. rw (stmt_here ts c.args.list.now (out-CoreStmts c.args.list.now).items.items c.args.at c.index.result.now refl (let counted = (out-CoreStmts c.args.list.now).items.ok.0 in omega (arith, c.if-at-len.false, c.len.ensures, counted)) c.index.ensures, stmt_at ts c.index.result.now c.deref.result.now c.deref.ensures, stmt_Labeled ts c.deref.result.now c.in-Labeled.label c.in-Labeled.body c.in-Labeled.is, stmts_whole ts c.in-Labeled.body) refl

pub returns-in-Labeled-clause-smaller : goal.returns-in-Labeled-clause-smaller
returns-in-Labeled-clause-smaller c = λ ts. rw (stmt_here ts c.args.list.now (out-CoreStmts c.args.list.now).items.items c.args.at c.index.result.now refl (let counted = (out-CoreStmts c.args.list.now).items.ok.0 in omega (arith, c.if-at-len.false, c.len.ensures, counted)) c.index.ensures, stmt_at ts c.index.result.now c.deref.result.now c.deref.ensures, stmt_Labeled ts c.deref.result.now c.in-Labeled.label c.in-Labeled.body c.in-Labeled.is, stmts_whole ts c.in-Labeled.body) (omega arith)

pub returns-in-Branch-clause-value : goal.returns-in-Branch-clause-value
returns-in-Branch-clause-value c = λ ts rest. rw (stmt_here ts c.args.list.now (out-CoreStmts c.args.list.now).items.items c.args.at c.index.result.now refl (let counted = (out-CoreStmts c.args.list.now).items.ok.0 in omega (arith, c.if-at-len.false, c.len.ensures, counted)) c.index.ensures, stmt_at ts c.index.result.now c.deref.result.now c.deref.ensures, stmt_Branch ts c.deref.result.now c.in-Branch.kind c.in-Branch.label c.in-Branch.is) refl

pub returns-in-Branch-clause-smaller : goal.returns-in-Branch-clause-smaller
returns-in-Branch-clause-smaller c = λ ts. rw (stmt_here ts c.args.list.now (out-CoreStmts c.args.list.now).items.items c.args.at c.index.result.now refl (let counted = (out-CoreStmts c.args.list.now).items.ok.0 in omega (arith, c.if-at-len.false, c.len.ensures, counted)) c.index.ensures, stmt_at ts c.index.result.now c.deref.result.now c.deref.ensures, stmt_Branch ts c.deref.result.now c.in-Branch.kind c.in-Branch.label c.in-Branch.is) (omega arith)

pub returns-in-Send-clause-value : goal.returns-in-Send-clause-value
returns-in-Send-clause-value c = λ ts rest. rw (stmt_here ts c.args.list.now (out-CoreStmts c.args.list.now).items.items c.args.at c.index.result.now refl (let counted = (out-CoreStmts c.args.list.now).items.ok.0 in omega (arith, c.if-at-len.false, c.len.ensures, counted)) c.index.ensures, stmt_at ts c.index.result.now c.deref.result.now c.deref.ensures, stmt_Send ts c.deref.result.now c.in-Send.channel c.in-Send.operand c.in-Send.value c.in-Send.is) refl

pub returns-in-Send-clause-smaller : goal.returns-in-Send-clause-smaller
returns-in-Send-clause-smaller c = λ ts. rw (stmt_here ts c.args.list.now (out-CoreStmts c.args.list.now).items.items c.args.at c.index.result.now refl (let counted = (out-CoreStmts c.args.list.now).items.ok.0 in omega (arith, c.if-at-len.false, c.len.ensures, counted)) c.index.ensures, stmt_at ts c.index.result.now c.deref.result.now c.deref.ensures, stmt_Send ts c.deref.result.now c.in-Send.channel c.in-Send.operand c.in-Send.value c.in-Send.is) (omega arith)

pub returns-in-Close-clause-value : goal.returns-in-Close-clause-value
returns-in-Close-clause-value c = λ ts rest. rw (stmt_here ts c.args.list.now (out-CoreStmts c.args.list.now).items.items c.args.at c.index.result.now refl (let counted = (out-CoreStmts c.args.list.now).items.ok.0 in omega (arith, c.if-at-len.false, c.len.ensures, counted)) c.index.ensures, stmt_at ts c.index.result.now c.deref.result.now c.deref.ensures, stmt_Close ts c.deref.result.now c.in-Close.e c.in-Close.is) refl

pub returns-in-Close-clause-smaller : goal.returns-in-Close-clause-smaller
returns-in-Close-clause-smaller c = λ ts. rw (stmt_here ts c.args.list.now (out-CoreStmts c.args.list.now).items.items c.args.at c.index.result.now refl (let counted = (out-CoreStmts c.args.list.now).items.ok.0 in omega (arith, c.if-at-len.false, c.len.ensures, counted)) c.index.ensures, stmt_at ts c.index.result.now c.deref.result.now c.deref.ensures, stmt_Close ts c.deref.result.now c.in-Close.e c.in-Close.is) (omega arith)

pub returns-in-SelectStep-clause-value : goal.returns-in-SelectStep-clause-value
returns-in-SelectStep-clause-value c = λ ts rest. rw (stmt_here ts c.args.list.now (out-CoreStmts c.args.list.now).items.items c.args.at c.index.result.now refl (let counted = (out-CoreStmts c.args.list.now).items.ok.0 in omega (arith, c.if-at-len.false, c.len.ensures, counted)) c.index.ensures, stmt_at ts c.index.result.now c.deref.result.now c.deref.ensures, stmt_SelectStep ts c.deref.result.now c.in-SelectStep.label c.in-SelectStep.cases c.in-SelectStep.has_default c.in-SelectStep.default c.in-SelectStep.is, cases_whole ts c.in-SelectStep.cases) refl

pub returns-in-SelectStep-clause-smaller : goal.returns-in-SelectStep-clause-smaller
returns-in-SelectStep-clause-smaller c = λ ts. rw (stmt_here ts c.args.list.now (out-CoreStmts c.args.list.now).items.items c.args.at c.index.result.now refl (let counted = (out-CoreStmts c.args.list.now).items.ok.0 in omega (arith, c.if-at-len.false, c.len.ensures, counted)) c.index.ensures, stmt_at ts c.index.result.now c.deref.result.now c.deref.ensures, stmt_SelectStep ts c.deref.result.now c.in-SelectStep.label c.in-SelectStep.cases c.in-SelectStep.has_default c.in-SelectStep.default c.in-SelectStep.is, cases_whole ts c.in-SelectStep.cases) (omega arith)

pub returns-in-GateTake-clause-value : goal.returns-in-GateTake-clause-value
returns-in-GateTake-clause-value c = λ ts rest. rw (stmt_here ts c.args.list.now (out-CoreStmts c.args.list.now).items.items c.args.at c.index.result.now refl (let counted = (out-CoreStmts c.args.list.now).items.ok.0 in omega (arith, c.if-at-len.false, c.len.ensures, counted)) c.index.ensures, stmt_at ts c.index.result.now c.deref.result.now c.deref.ensures, stmt_GateTake ts c.deref.result.now c.in-GateTake.e c.in-GateTake.is) refl

pub returns-in-GateTake-clause-smaller : goal.returns-in-GateTake-clause-smaller
returns-in-GateTake-clause-smaller c = λ ts. rw (stmt_here ts c.args.list.now (out-CoreStmts c.args.list.now).items.items c.args.at c.index.result.now refl (let counted = (out-CoreStmts c.args.list.now).items.ok.0 in omega (arith, c.if-at-len.false, c.len.ensures, counted)) c.index.ensures, stmt_at ts c.index.result.now c.deref.result.now c.deref.ensures, stmt_GateTake ts c.deref.result.now c.in-GateTake.e c.in-GateTake.is) (omega arith)

pub returns-in-GateAwait-clause-value : goal.returns-in-GateAwait-clause-value
returns-in-GateAwait-clause-value c = λ ts rest. rw (stmt_here ts c.args.list.now (out-CoreStmts c.args.list.now).items.items c.args.at c.index.result.now refl (let counted = (out-CoreStmts c.args.list.now).items.ok.0 in omega (arith, c.if-at-len.false, c.len.ensures, counted)) c.index.ensures, stmt_at ts c.index.result.now c.deref.result.now c.deref.ensures, stmt_GateAwait ts c.deref.result.now c.in-GateAwait.e c.in-GateAwait.is) refl

pub returns-in-GateAwait-clause-smaller : goal.returns-in-GateAwait-clause-smaller
returns-in-GateAwait-clause-smaller c = λ ts. rw (stmt_here ts c.args.list.now (out-CoreStmts c.args.list.now).items.items c.args.at c.index.result.now refl (let counted = (out-CoreStmts c.args.list.now).items.ok.0 in omega (arith, c.if-at-len.false, c.len.ensures, counted)) c.index.ensures, stmt_at ts c.index.result.now c.deref.result.now c.deref.ensures, stmt_GateAwait ts c.deref.result.now c.in-GateAwait.e c.in-GateAwait.is) (omega arith)

pub returns-in-Yield-clause-value : goal.returns-in-Yield-clause-value
returns-in-Yield-clause-value c = λ ts rest. rw (stmt_here ts c.args.list.now (out-CoreStmts c.args.list.now).items.items c.args.at c.index.result.now refl (let counted = (out-CoreStmts c.args.list.now).items.ok.0 in omega (arith, c.if-at-len.false, c.len.ensures, counted)) c.index.ensures, stmt_at ts c.index.result.now c.deref.result.now c.deref.ensures, stmt_Yield ts c.deref.result.now c.in-Yield.is) refl

pub returns-in-Yield-clause-smaller : goal.returns-in-Yield-clause-smaller
returns-in-Yield-clause-smaller c = λ ts. rw (stmt_here ts c.args.list.now (out-CoreStmts c.args.list.now).items.items c.args.at c.index.result.now refl (let counted = (out-CoreStmts c.args.list.now).items.ok.0 in omega (arith, c.if-at-len.false, c.len.ensures, counted)) c.index.ensures, stmt_at ts c.index.result.now c.deref.result.now c.deref.ensures, stmt_Yield ts c.deref.result.now c.in-Yield.is) (omega arith)

pub returns-in-GoCall-clause-value : goal.returns-in-GoCall-clause-value
returns-in-GoCall-clause-value c = λ ts rest. rw (stmt_here ts c.args.list.now (out-CoreStmts c.args.list.now).items.items c.args.at c.index.result.now refl (let counted = (out-CoreStmts c.args.list.now).items.ok.0 in omega (arith, c.if-at-len.false, c.len.ensures, counted)) c.index.ensures, stmt_at ts c.index.result.now c.deref.result.now c.deref.ensures, stmt_GoCall ts c.deref.result.now c.in-GoCall.callee c.in-GoCall.operands c.in-GoCall.is, exprs_whole ts c.in-GoCall.operands) refl

pub returns-in-GoCall-clause-smaller : goal.returns-in-GoCall-clause-smaller
returns-in-GoCall-clause-smaller c = λ ts. rw (stmt_here ts c.args.list.now (out-CoreStmts c.args.list.now).items.items c.args.at c.index.result.now refl (let counted = (out-CoreStmts c.args.list.now).items.ok.0 in omega (arith, c.if-at-len.false, c.len.ensures, counted)) c.index.ensures, stmt_at ts c.index.result.now c.deref.result.now c.deref.ensures, stmt_GoCall ts c.deref.result.now c.in-GoCall.callee c.in-GoCall.operands c.in-GoCall.is, exprs_whole ts c.in-GoCall.operands) (omega arith)

pub returns-in-DeferCall-clause-value : goal.returns-in-DeferCall-clause-value
returns-in-DeferCall-clause-value c = λ ts rest. rw (stmt_here ts c.args.list.now (out-CoreStmts c.args.list.now).items.items c.args.at c.index.result.now refl (let counted = (out-CoreStmts c.args.list.now).items.ok.0 in omega (arith, c.if-at-len.false, c.len.ensures, counted)) c.index.ensures, stmt_at ts c.index.result.now c.deref.result.now c.deref.ensures, stmt_DeferCall ts c.deref.result.now c.in-DeferCall.callee c.in-DeferCall.operands c.in-DeferCall.is, exprs_whole ts c.in-DeferCall.operands) refl

pub returns-in-DeferCall-clause-smaller : goal.returns-in-DeferCall-clause-smaller
returns-in-DeferCall-clause-smaller c = λ ts. rw (stmt_here ts c.args.list.now (out-CoreStmts c.args.list.now).items.items c.args.at c.index.result.now refl (let counted = (out-CoreStmts c.args.list.now).items.ok.0 in omega (arith, c.if-at-len.false, c.len.ensures, counted)) c.index.ensures, stmt_at ts c.index.result.now c.deref.result.now c.deref.ensures, stmt_DeferCall ts c.deref.result.now c.in-DeferCall.callee c.in-DeferCall.operands c.in-DeferCall.is, exprs_whole ts c.in-DeferCall.operands) (omega arith)

pub returns-in-Return-clause-value : goal.returns-in-Return-clause-value
returns-in-Return-clause-value c = λ ts rest. rw (stmt_here ts c.args.list.now (out-CoreStmts c.args.list.now).items.items c.args.at c.index.result.now refl (let counted = (out-CoreStmts c.args.list.now).items.ok.0 in omega (arith, c.if-at-len.false, c.len.ensures, counted)) c.index.ensures, stmt_at ts c.index.result.now c.deref.result.now c.deref.ensures, stmt_Return ts c.deref.result.now c.in-Return.es c.in-Return.is, exprs_whole ts c.in-Return.es) refl

pub returns-in-Return-clause-smaller : goal.returns-in-Return-clause-smaller
returns-in-Return-clause-smaller c = λ ts. rw (stmt_here ts c.args.list.now (out-CoreStmts c.args.list.now).items.items c.args.at c.index.result.now refl (let counted = (out-CoreStmts c.args.list.now).items.ok.0 in omega (arith, c.if-at-len.false, c.len.ensures, counted)) c.index.ensures, stmt_at ts c.index.result.now c.deref.result.now c.deref.ensures, stmt_Return ts c.deref.result.now c.in-Return.es c.in-Return.is, exprs_whole ts c.in-Return.es) (omega arith)

pub returns-in-Panic-clause-value : goal.returns-in-Panic-clause-value
returns-in-Panic-clause-value c = λ ts rest. rw (stmt_here ts c.args.list.now (out-CoreStmts c.args.list.now).items.items c.args.at c.index.result.now refl (let counted = (out-CoreStmts c.args.list.now).items.ok.0 in omega (arith, c.if-at-len.false, c.len.ensures, counted)) c.index.ensures, stmt_at ts c.index.result.now c.deref.result.now c.deref.ensures, stmt_Panic ts c.deref.result.now c.in-Panic.e c.in-Panic.is) refl

pub returns-in-Panic-clause-smaller : goal.returns-in-Panic-clause-smaller
returns-in-Panic-clause-smaller c = λ ts. rw (stmt_here ts c.args.list.now (out-CoreStmts c.args.list.now).items.items c.args.at c.index.result.now refl (let counted = (out-CoreStmts c.args.list.now).items.ok.0 in omega (arith, c.if-at-len.false, c.len.ensures, counted)) c.index.ensures, stmt_at ts c.index.result.now c.deref.result.now c.deref.ensures, stmt_Panic ts c.deref.result.now c.in-Panic.e c.in-Panic.is) (omega arith)

pub returns-in-Print-clause-value : goal.returns-in-Print-clause-value
returns-in-Print-clause-value c = λ ts rest. rw (stmt_here ts c.args.list.now (out-CoreStmts c.args.list.now).items.items c.args.at c.index.result.now refl (let counted = (out-CoreStmts c.args.list.now).items.ok.0 in omega (arith, c.if-at-len.false, c.len.ensures, counted)) c.index.ensures, stmt_at ts c.index.result.now c.deref.result.now c.deref.ensures, stmt_Print ts c.deref.result.now c.in-Print.operands c.in-Print.ends_line c.in-Print.is, exprs_whole ts c.in-Print.operands) refl

pub returns-in-Print-clause-smaller : goal.returns-in-Print-clause-smaller
returns-in-Print-clause-smaller c = λ ts. rw (stmt_here ts c.args.list.now (out-CoreStmts c.args.list.now).items.items c.args.at c.index.result.now refl (let counted = (out-CoreStmts c.args.list.now).items.ok.0 in omega (arith, c.if-at-len.false, c.len.ensures, counted)) c.index.ensures, stmt_at ts c.index.result.now c.deref.result.now c.deref.ensures, stmt_Print ts c.deref.result.now c.in-Print.operands c.in-Print.ends_line c.in-Print.is, exprs_whole ts c.in-Print.operands) (omega arith)

pub returns-in-Exit-clause-value : goal.returns-in-Exit-clause-value
returns-in-Exit-clause-value c = λ ts rest. rw (stmt_here ts c.args.list.now (out-CoreStmts c.args.list.now).items.items c.args.at c.index.result.now refl (let counted = (out-CoreStmts c.args.list.now).items.ok.0 in omega (arith, c.if-at-len.false, c.len.ensures, counted)) c.index.ensures, stmt_at ts c.index.result.now c.deref.result.now c.deref.ensures, stmt_Exit ts c.deref.result.now c.in-Exit.e c.in-Exit.is) refl

pub returns-in-Exit-clause-smaller : goal.returns-in-Exit-clause-smaller
returns-in-Exit-clause-smaller c = λ ts. rw (stmt_here ts c.args.list.now (out-CoreStmts c.args.list.now).items.items c.args.at c.index.result.now refl (let counted = (out-CoreStmts c.args.list.now).items.ok.0 in omega (arith, c.if-at-len.false, c.len.ensures, counted)) c.index.ensures, stmt_at ts c.index.result.now c.deref.result.now c.deref.ensures, stmt_Exit ts c.deref.result.now c.in-Exit.e c.in-Exit.is) (omega arith)

pub returns-in-Fatal-clause-value : goal.returns-in-Fatal-clause-value
returns-in-Fatal-clause-value c = λ ts rest. rw (stmt_here ts c.args.list.now (out-CoreStmts c.args.list.now).items.items c.args.at c.index.result.now refl (let counted = (out-CoreStmts c.args.list.now).items.ok.0 in omega (arith, c.if-at-len.false, c.len.ensures, counted)) c.index.ensures, stmt_at ts c.index.result.now c.deref.result.now c.deref.ensures, stmt_Fatal ts c.deref.result.now c.in-Fatal.e c.in-Fatal.is) refl

pub returns-in-Fatal-clause-smaller : goal.returns-in-Fatal-clause-smaller
returns-in-Fatal-clause-smaller c = λ ts. rw (stmt_here ts c.args.list.now (out-CoreStmts c.args.list.now).items.items c.args.at c.index.result.now refl (let counted = (out-CoreStmts c.args.list.now).items.ok.0 in omega (arith, c.if-at-len.false, c.len.ensures, counted)) c.index.ensures, stmt_at ts c.index.result.now c.deref.result.now c.deref.ensures, stmt_Fatal ts c.deref.result.now c.in-Fatal.e c.in-Fatal.is) (omega arith)
