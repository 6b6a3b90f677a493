use Rattle.std.proofs.Common.{ap, sym, subst, arith, List, []}
use Rattle.std.specs.Prelude.{Option, slice_get}
use Rattle.std.proofs.lemmas.Result.{IfOk-weaker}
use Rattle.go_type.specs.Tree.{Ty}
use Rattle.go_core.specs.CoreTree.{Stmt}
use Rattle.go_core.specs.CoreView.{stmt_view}
use Rattle.go_core.specs.declared.statement.CoreStmts.{out-CoreStmts}
use Rattle.go_state.specs.Last.{done}
use Rattle.go_state.specs.TasksSeen.{done_at, stmts_listed}
use Rattle.go_state.proofs.ListsLemmas.{get_here, get_past}
use Rattle.go_state.specs.Passed.{begins_with_step}
use Rattle.go_entries.specs.DoingSeen.{IsDone}
use Rattle.go_entries.proofs.doing.doing.stmt_at.Goals as goal

pub returns-then-at-len : goal.returns-then-at-len
returns-then-at-len c = record {
  value = λ ts.
      ap (λ (o : Option Stmt). begins_with_step (done_at o []))
      (get_past (stmt_view ts) (out-CoreStmts c.args.list.now).items.items c.args.at
      (let counted = (out-CoreStmts c.args.list.now).items.ok.0 in omega (arith, c.if-at-len.true, c.len.ensures, counted)));
}

pub returns : goal.returns
returns c =
    let xs = (out-CoreStmts c.args.list.now).items.items in
    let x = c.index.result.now in
    record {
      value =
          IfOk-weaker c.stmt_doing.result (λ r. (ts : List Ty) → IsDone ts r (done (stmt_view ts x))) (λ r. (ts : List Ty) → IsDone ts r (done_at (slice_get (stmts_listed ts c.args.list.now) c.args.at)))
          (λ r h ts.
          subst (λ (o : Option Stmt). IsDone ts r (done_at o))
          (sym (get_here (stmt_view ts) xs c.args.at x (let counted = (out-CoreStmts c.args.list.now).items.ok.0 in omega (arith, c.if-at-len.false, c.len.ensures, counted)) c.index.ensures)) (h ts))
          c.stmt_doing.ensures.value;
    }
