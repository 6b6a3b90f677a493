use Rattle.std.proofs.Common.{arith, ◌∙◌, ◌+◌, ◌++◌, sym, ap, append_assoc, append-nil, List, drop, map}
use Rattle.go_core.specs.CoreTree.{Stmt}
use Rattle.go_core.specs.CoreView.{stmts_of}
use Rattle.go_core.specs.CoreView as core
use Rattle.js_tree.specs.Script as script
use Rattle.js_tree.specs.View.{stmt_view}
use Rattle.js_prints.specs.Emitted.{writes_of, all_writes_of}
use Rattle.js_prints.proofs.ListLemmas.{next_at, none_left}
use Rattle.js_prints.proofs.script.calls_of.Goals as goal

pub loop-stmt-preserved : goal.loop-stmt-preserved
loop-stmt-preserved c = record {
  emitted = λ ts.
      let next = next_at (core.stmt_view ts) c.args.body.now c.loop-stmt.stmt-index c.stmt-item.result c.loop-stmt-test.true c.stmt-item.is in
      let rest = all_writes_of (stmts_of (map (core.stmt_view ts) (drop (c.loop-stmt.stmt-index + 1) c.args.body.now))) in
      ap (λ (ws : List script.Stmt). ws ++ rest) (c.in_ok-emit_stmt.ensures.value ts)
      ∙ append_assoc (map stmt_view c.loop-stmt.calls.items) (writes_of (core.stmt_view ts c.stmt-item.result)) rest
      ∙ sym (ap (λ (ss : List Stmt). map stmt_view c.loop-stmt.calls.items ++ all_writes_of (stmts_of ss)) next)
      ∙ c.loop-stmt.invariant.emitted ts;
  printable = c.in_ok-emit_stmt.ensures.printable c.loop-stmt.invariant.printable;
}

pub returns-clause-value : goal.returns-clause-value
returns-clause-value c = λ ts.
    let none = none_left c.args.body.now c.loop-stmt.stmt-index (omega (arith, c.loop-stmt-test.false)) in
    sym (append-nil (map stmt_view c.loop-stmt.calls.items))
    ∙ sym (ap (λ ss. map stmt_view c.loop-stmt.calls.items ++ all_writes_of (stmts_of (map (core.stmt_view ts) ss))) none)
    ∙ c.loop-stmt.invariant.emitted ts
