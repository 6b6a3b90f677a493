use Rattle.std.proofs.Common.{refl, arith}
use Rattle.go_core.specs.declared.statement.CoreStmts.{out-CoreStmts}
use Rattle.go_state.proofs.ListsLemmas.{stmt_here}
use Rattle.go_state.proofs.Views.{stmt_at, stmt_Seq, stmt_Perform, stmt_Declare, stmt_Store, stmt_MapDelete, stmt_If, stmt_Loop, stmt_SwitchOn, stmt_RangeNext, stmt_Labeled, stmt_Branch, stmt_Send, stmt_Close, stmt_SelectStep, stmt_GateTake, stmt_GateAwait, stmt_Yield, stmt_GoCall, stmt_DeferCall, stmt_Return, stmt_Panic, stmt_Print, stmt_Exit, stmt_Fatal}
use Rattle.go_state.proofs.state.next.dropped_at.Goals as goal

pub returns-in-Seq : goal.returns-in-Seq
returns-in-Seq c = record { value = λ ts. rw (stmt_here ts c.args.list.now (out-CoreStmts c.args.list.now).items.items c.args.at c.index.result.now refl (let counted = (out-CoreStmts c.args.list.now).items.ok.0 in omega (arith, c.if-at-len.false, c.len.ensures, counted)) c.index.ensures, stmt_at ts c.index.result.now c.deref.result.now c.deref.ensures, stmt_Seq ts c.deref.result.now c.in-Seq.field-0 c.in-Seq.is) refl }

pub returns-in-Perform : goal.returns-in-Perform
returns-in-Perform c = record { value = λ ts. rw (stmt_here ts c.args.list.now (out-CoreStmts c.args.list.now).items.items c.args.at c.index.result.now refl (let counted = (out-CoreStmts c.args.list.now).items.ok.0 in omega (arith, c.if-at-len.false, c.len.ensures, counted)) c.index.ensures, stmt_at ts c.index.result.now c.deref.result.now c.deref.ensures, stmt_Perform ts c.deref.result.now c.in-Perform.operand c.in-Perform.values c.in-Perform.is) refl }

pub returns-in-Declare : goal.returns-in-Declare
returns-in-Declare c = record { value = λ ts. rw (stmt_here ts c.args.list.now (out-CoreStmts c.args.list.now).items.items c.args.at c.index.result.now refl (let counted = (out-CoreStmts c.args.list.now).items.ok.0 in omega (arith, c.if-at-len.false, c.len.ensures, counted)) c.index.ensures, stmt_at ts c.index.result.now c.deref.result.now c.deref.ensures, stmt_Declare ts c.deref.result.now c.in-Declare.field-0 c.in-Declare.is) refl }

pub returns-in-Store : goal.returns-in-Store
returns-in-Store c = record { value = λ ts. rw (stmt_here ts c.args.list.now (out-CoreStmts c.args.list.now).items.items c.args.at c.index.result.now refl (let counted = (out-CoreStmts c.args.list.now).items.ok.0 in omega (arith, c.if-at-len.false, c.len.ensures, counted)) c.index.ensures, stmt_at ts c.index.result.now c.deref.result.now c.deref.ensures, stmt_Store ts c.deref.result.now c.in-Store.targets c.in-Store.values c.in-Store.is) refl }

pub returns-in-MapDelete : goal.returns-in-MapDelete
returns-in-MapDelete c = record { value = λ ts. rw (stmt_here ts c.args.list.now (out-CoreStmts c.args.list.now).items.items c.args.at c.index.result.now refl (let counted = (out-CoreStmts c.args.list.now).items.ok.0 in omega (arith, c.if-at-len.false, c.len.ensures, counted)) c.index.ensures, stmt_at ts c.index.result.now c.deref.result.now c.deref.ensures, stmt_MapDelete ts c.deref.result.now c.in-MapDelete.map_type c.in-MapDelete.operand c.in-MapDelete.key c.in-MapDelete.is) refl }

pub returns-in-If : goal.returns-in-If
returns-in-If c = record { value = λ ts. rw (stmt_here ts c.args.list.now (out-CoreStmts c.args.list.now).items.items c.args.at c.index.result.now refl (let counted = (out-CoreStmts c.args.list.now).items.ok.0 in omega (arith, c.if-at-len.false, c.len.ensures, counted)) c.index.ensures, stmt_at ts c.index.result.now c.deref.result.now c.deref.ensures, stmt_If ts c.deref.result.now c.in-If.condition c.in-If.when_true c.in-If.when_false c.in-If.is) refl }

pub returns-in-Loop : goal.returns-in-Loop
returns-in-Loop c = record { value = λ ts. rw (stmt_here ts c.args.list.now (out-CoreStmts c.args.list.now).items.items c.args.at c.index.result.now refl (let counted = (out-CoreStmts c.args.list.now).items.ok.0 in omega (arith, c.if-at-len.false, c.len.ensures, counted)) c.index.ensures, stmt_at ts c.index.result.now c.deref.result.now c.deref.ensures, stmt_Loop ts c.deref.result.now c.in-Loop.label c.in-Loop.condition c.in-Loop.body c.in-Loop.post c.in-Loop.is) refl }

pub returns-in-SwitchOn : goal.returns-in-SwitchOn
returns-in-SwitchOn c = record { value = λ ts. rw (stmt_here ts c.args.list.now (out-CoreStmts c.args.list.now).items.items c.args.at c.index.result.now refl (let counted = (out-CoreStmts c.args.list.now).items.ok.0 in omega (arith, c.if-at-len.false, c.len.ensures, counted)) c.index.ensures, stmt_at ts c.index.result.now c.deref.result.now c.deref.ensures, stmt_SwitchOn ts c.deref.result.now c.in-SwitchOn.label c.in-SwitchOn.tests c.in-SwitchOn.clauses c.in-SwitchOn.default c.in-SwitchOn.is) refl }

pub returns-in-RangeNext : goal.returns-in-RangeNext
returns-in-RangeNext c = record { value = λ ts. rw (stmt_here ts c.args.list.now (out-CoreStmts c.args.list.now).items.items c.args.at c.index.result.now refl (let counted = (out-CoreStmts c.args.list.now).items.ok.0 in omega (arith, c.if-at-len.false, c.len.ensures, counted)) c.index.ensures, stmt_at ts c.index.result.now c.deref.result.now c.deref.ensures, stmt_RangeNext ts c.deref.result.now c.in-RangeNext.label c.in-RangeNext.from c.in-RangeNext.operand c.in-RangeNext.key c.in-RangeNext.value c.in-RangeNext.body c.in-RangeNext.is) refl }

pub returns-in-Labeled : goal.returns-in-Labeled
returns-in-Labeled c = record { value = λ ts. rw (stmt_here ts c.args.list.now (out-CoreStmts c.args.list.now).items.items c.args.at c.index.result.now refl (let counted = (out-CoreStmts c.args.list.now).items.ok.0 in omega (arith, c.if-at-len.false, c.len.ensures, counted)) c.index.ensures, stmt_at ts c.index.result.now c.deref.result.now c.deref.ensures, stmt_Labeled ts c.deref.result.now c.in-Labeled.label c.in-Labeled.body c.in-Labeled.is) refl }

pub returns-in-Branch : goal.returns-in-Branch
returns-in-Branch c = record { value = λ ts. rw (stmt_here ts c.args.list.now (out-CoreStmts c.args.list.now).items.items c.args.at c.index.result.now refl (let counted = (out-CoreStmts c.args.list.now).items.ok.0 in omega (arith, c.if-at-len.false, c.len.ensures, counted)) c.index.ensures, stmt_at ts c.index.result.now c.deref.result.now c.deref.ensures, stmt_Branch ts c.deref.result.now c.in-Branch.kind c.in-Branch.label c.in-Branch.is) refl }

pub returns-in-Send : goal.returns-in-Send
returns-in-Send c = record { value = λ ts. rw (stmt_here ts c.args.list.now (out-CoreStmts c.args.list.now).items.items c.args.at c.index.result.now refl (let counted = (out-CoreStmts c.args.list.now).items.ok.0 in omega (arith, c.if-at-len.false, c.len.ensures, counted)) c.index.ensures, stmt_at ts c.index.result.now c.deref.result.now c.deref.ensures, stmt_Send ts c.deref.result.now c.in-Send.channel c.in-Send.operand c.in-Send.value c.in-Send.is) refl }

pub returns-in-Close : goal.returns-in-Close
returns-in-Close c = record { value = λ ts. rw (stmt_here ts c.args.list.now (out-CoreStmts c.args.list.now).items.items c.args.at c.index.result.now refl (let counted = (out-CoreStmts c.args.list.now).items.ok.0 in omega (arith, c.if-at-len.false, c.len.ensures, counted)) c.index.ensures, stmt_at ts c.index.result.now c.deref.result.now c.deref.ensures, stmt_Close ts c.deref.result.now c.in-Close.field-0 c.in-Close.is) refl }

pub returns-in-SelectStep : goal.returns-in-SelectStep
returns-in-SelectStep c = record { value = λ ts. rw (stmt_here ts c.args.list.now (out-CoreStmts c.args.list.now).items.items c.args.at c.index.result.now refl (let counted = (out-CoreStmts c.args.list.now).items.ok.0 in omega (arith, c.if-at-len.false, c.len.ensures, counted)) c.index.ensures, stmt_at ts c.index.result.now c.deref.result.now c.deref.ensures, stmt_SelectStep ts c.deref.result.now c.in-SelectStep.label c.in-SelectStep.cases c.in-SelectStep.has_default c.in-SelectStep.default c.in-SelectStep.is) refl }

pub returns-in-GateTake : goal.returns-in-GateTake
returns-in-GateTake c = record { value = λ ts. rw (stmt_here ts c.args.list.now (out-CoreStmts c.args.list.now).items.items c.args.at c.index.result.now refl (let counted = (out-CoreStmts c.args.list.now).items.ok.0 in omega (arith, c.if-at-len.false, c.len.ensures, counted)) c.index.ensures, stmt_at ts c.index.result.now c.deref.result.now c.deref.ensures, stmt_GateTake ts c.deref.result.now c.in-GateTake.field-0 c.in-GateTake.is) refl }

pub returns-in-GateAwait : goal.returns-in-GateAwait
returns-in-GateAwait c = record { value = λ ts. rw (stmt_here ts c.args.list.now (out-CoreStmts c.args.list.now).items.items c.args.at c.index.result.now refl (let counted = (out-CoreStmts c.args.list.now).items.ok.0 in omega (arith, c.if-at-len.false, c.len.ensures, counted)) c.index.ensures, stmt_at ts c.index.result.now c.deref.result.now c.deref.ensures, stmt_GateAwait ts c.deref.result.now c.in-GateAwait.field-0 c.in-GateAwait.is) refl }

pub returns-in-Yield : goal.returns-in-Yield
returns-in-Yield c = record { value = λ ts. rw (stmt_here ts c.args.list.now (out-CoreStmts c.args.list.now).items.items c.args.at c.index.result.now refl (let counted = (out-CoreStmts c.args.list.now).items.ok.0 in omega (arith, c.if-at-len.false, c.len.ensures, counted)) c.index.ensures, stmt_at ts c.index.result.now c.deref.result.now c.deref.ensures, stmt_Yield ts c.deref.result.now c.in-Yield.is) refl }

pub returns-in-GoCall : goal.returns-in-GoCall
returns-in-GoCall c = record { value = λ ts. rw (stmt_here ts c.args.list.now (out-CoreStmts c.args.list.now).items.items c.args.at c.index.result.now refl (let counted = (out-CoreStmts c.args.list.now).items.ok.0 in omega (arith, c.if-at-len.false, c.len.ensures, counted)) c.index.ensures, stmt_at ts c.index.result.now c.deref.result.now c.deref.ensures, stmt_GoCall ts c.deref.result.now c.in-GoCall.callee c.in-GoCall.operands c.in-GoCall.is) refl }

pub returns-in-DeferCall : goal.returns-in-DeferCall
returns-in-DeferCall c = record { value = λ ts. rw (stmt_here ts c.args.list.now (out-CoreStmts c.args.list.now).items.items c.args.at c.index.result.now refl (let counted = (out-CoreStmts c.args.list.now).items.ok.0 in omega (arith, c.if-at-len.false, c.len.ensures, counted)) c.index.ensures, stmt_at ts c.index.result.now c.deref.result.now c.deref.ensures, stmt_DeferCall ts c.deref.result.now c.in-DeferCall.callee c.in-DeferCall.operands c.in-DeferCall.is) refl }

pub returns-in-Return : goal.returns-in-Return
returns-in-Return c = record { value = λ ts. rw (stmt_here ts c.args.list.now (out-CoreStmts c.args.list.now).items.items c.args.at c.index.result.now refl (let counted = (out-CoreStmts c.args.list.now).items.ok.0 in omega (arith, c.if-at-len.false, c.len.ensures, counted)) c.index.ensures, stmt_at ts c.index.result.now c.deref.result.now c.deref.ensures, stmt_Return ts c.deref.result.now c.in-Return.field-0 c.in-Return.is) refl }

pub returns-in-Panic : goal.returns-in-Panic
returns-in-Panic c = record { value = λ ts. rw (stmt_here ts c.args.list.now (out-CoreStmts c.args.list.now).items.items c.args.at c.index.result.now refl (let counted = (out-CoreStmts c.args.list.now).items.ok.0 in omega (arith, c.if-at-len.false, c.len.ensures, counted)) c.index.ensures, stmt_at ts c.index.result.now c.deref.result.now c.deref.ensures, stmt_Panic ts c.deref.result.now c.in-Panic.field-0 c.in-Panic.is) refl }

pub returns-in-Print : goal.returns-in-Print
returns-in-Print c = record { value = λ ts. rw (stmt_here ts c.args.list.now (out-CoreStmts c.args.list.now).items.items c.args.at c.index.result.now refl (let counted = (out-CoreStmts c.args.list.now).items.ok.0 in omega (arith, c.if-at-len.false, c.len.ensures, counted)) c.index.ensures, stmt_at ts c.index.result.now c.deref.result.now c.deref.ensures, stmt_Print ts c.deref.result.now c.in-Print.operands c.in-Print.ends_line c.in-Print.is) refl }

pub returns-in-Exit : goal.returns-in-Exit
returns-in-Exit c = record { value = λ ts. rw (stmt_here ts c.args.list.now (out-CoreStmts c.args.list.now).items.items c.args.at c.index.result.now refl (let counted = (out-CoreStmts c.args.list.now).items.ok.0 in omega (arith, c.if-at-len.false, c.len.ensures, counted)) c.index.ensures, stmt_at ts c.index.result.now c.deref.result.now c.deref.ensures, stmt_Exit ts c.deref.result.now c.in-Exit.field-0 c.in-Exit.is) refl }

pub returns-in-Fatal : goal.returns-in-Fatal
returns-in-Fatal c = record { value = λ ts. rw (stmt_here ts c.args.list.now (out-CoreStmts c.args.list.now).items.items c.args.at c.index.result.now refl (let counted = (out-CoreStmts c.args.list.now).items.ok.0 in omega (arith, c.if-at-len.false, c.len.ensures, counted)) c.index.ensures, stmt_at ts c.index.result.now c.deref.result.now c.deref.ensures, stmt_Fatal ts c.deref.result.now c.in-Fatal.field-0 c.in-Fatal.is) refl }
