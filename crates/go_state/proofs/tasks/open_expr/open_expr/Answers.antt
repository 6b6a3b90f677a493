use Rattle.std.proofs.Common.{refl, arith}
use Rattle.go_core.specs.CoreView.{expr_view}
use Rattle.go_state.specs.Last.{applied}
use Rattle.go_state.proofs.ListsLemmas.{exprs_whole, elements_whole, pairs_whole}
use Rattle.go_state.proofs.Views.{expr_at, expr_Build, expr_BuildMap, expr_Call, expr_MakeSlice, expr_MakeMap, expr_MakeChan}
use Rattle.go_state.proofs.tasks.open_expr.open_expr.Goals as goal

pub returns-in-Build-clause-value : goal.returns-in-Build-clause-value
returns-in-Build-clause-value c = λ ts rest. rw (expr_at ts c.args.e.now c.deref.result.now c.deref.ensures, expr_Build ts c.deref.result.now c.in-Build.ty c.in-Build.count c.in-Build.elements c.in-Build.is, elements_whole ts c.in-Build.elements) refl

pub returns-in-Build-clause-smaller : goal.returns-in-Build-clause-smaller
returns-in-Build-clause-smaller c = λ ts. rw (expr_at ts c.args.e.now c.deref.result.now c.deref.ensures, expr_Build ts c.deref.result.now c.in-Build.ty c.in-Build.count c.in-Build.elements c.in-Build.is, elements_whole ts c.in-Build.elements) (omega arith)

pub returns-in-BuildMap-clause-value : goal.returns-in-BuildMap-clause-value
returns-in-BuildMap-clause-value c = λ ts rest. rw (expr_at ts c.args.e.now c.deref.result.now c.deref.ensures, expr_BuildMap ts c.deref.result.now c.in-BuildMap.ty c.in-BuildMap.pairs c.in-BuildMap.is, pairs_whole ts c.in-BuildMap.pairs) refl

pub returns-in-BuildMap-clause-smaller : goal.returns-in-BuildMap-clause-smaller
returns-in-BuildMap-clause-smaller c = λ ts. rw (expr_at ts c.args.e.now c.deref.result.now c.deref.ensures, expr_BuildMap ts c.deref.result.now c.in-BuildMap.ty c.in-BuildMap.pairs c.in-BuildMap.is, pairs_whole ts c.in-BuildMap.pairs) (omega arith)

pub returns-in-Call-clause-value : goal.returns-in-Call-clause-value
returns-in-Call-clause-value c = λ ts rest. rw (expr_at ts c.args.e.now c.deref.result.now c.deref.ensures, expr_Call ts c.deref.result.now c.in-Call.results c.in-Call.callee c.in-Call.operands c.in-Call.is, exprs_whole ts c.in-Call.operands) refl

pub returns-in-Call-clause-smaller : goal.returns-in-Call-clause-smaller
returns-in-Call-clause-smaller c = λ ts. rw (expr_at ts c.args.e.now c.deref.result.now c.deref.ensures, expr_Call ts c.deref.result.now c.in-Call.results c.in-Call.callee c.in-Call.operands c.in-Call.is, exprs_whole ts c.in-Call.operands) (omega arith)

pub returns-in-MakeSlice-clause-value : goal.returns-in-MakeSlice-clause-value
returns-in-MakeSlice-clause-value c = λ ts rest.
    let bounds = c.bounded.ensures.value ts (applied (expr_view ts c.args.e.now) rest) in
    rw (bounds, expr_at ts c.args.e.now c.deref.result.now c.deref.ensures, expr_MakeSlice ts c.deref.result.now c.in-MakeSlice.ty c.in-MakeSlice.length c.in-MakeSlice.capacity c.in-MakeSlice.is) refl

pub returns-in-MakeMap-clause-value : goal.returns-in-MakeMap-clause-value
returns-in-MakeMap-clause-value c = λ ts rest.
    let bounds = c.bounded-in-MakeMap.ensures.value ts (applied (expr_view ts c.args.e.now) rest) in
    rw (bounds, expr_at ts c.args.e.now c.deref.result.now c.deref.ensures, expr_MakeMap ts c.deref.result.now c.in-MakeMap.ty c.in-MakeMap.count c.in-MakeMap.is) refl

pub returns-in-MakeChan-clause-value : goal.returns-in-MakeChan-clause-value
returns-in-MakeChan-clause-value c = λ ts rest.
    let bounds = c.bounded-in-MakeChan.ensures.value ts (applied (expr_view ts c.args.e.now) rest) in
    rw (bounds, expr_at ts c.args.e.now c.deref.result.now c.deref.ensures, expr_MakeChan ts c.deref.result.now c.in-MakeChan.ty c.in-MakeChan.capacity c.in-MakeChan.is) refl
