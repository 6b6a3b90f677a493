use Rattle.std.proofs.Common.{arith, ◌≡◌, ◌∙◌, ◌+◌, sym, ap, List, Bool, true, false, ◌&&◌, drop, map}
use Rattle.go_core.specs.CoreTree.{Stmt}
use Rattle.go_core.specs.CoreView.{stmt_view, stmts_of}
use Rattle.js_prints.specs.Prints.{all_print, is_print}
use Rattle.js_prints.proofs.ListLemmas.{next_at, none_left}
use Rattle.js_prints.proofs.kind.all_print.Goals as goal

pub returns-then-not-is_print : goal.returns-then-not-is_print
returns-then-not-is_print c = record {
  value = λ ts.
      let next = next_at (stmt_view ts) c.args.stmts.now c.loop-s.s-index c.s-item.result c.loop-s-test.true c.s-item.is in
      let rest = all_print (stmts_of (map (stmt_view ts) (drop (c.loop-s.s-index + 1) c.args.stmts.now))) in
      let no : is_print (stmt_view ts c.s-item.result) ≡ false = sym (c.is_print.ensures.value ts) ∙ c.if-not-is_print.true in
      sym (sym (c.loop-s.invariant ts) ∙ ap (λ (es : List Stmt). all_print (stmts_of es)) next ∙ ap (λ (b : Bool). b && rest) no);
}

pub loop-s-preserved : goal.loop-s-preserved
loop-s-preserved c = λ ts.
    let next = next_at (stmt_view ts) c.args.stmts.now c.loop-s.s-index c.s-item.result c.loop-s-test.true c.s-item.is in
    let rest = all_print (stmts_of (map (stmt_view ts) (drop (c.loop-s.s-index + 1) c.args.stmts.now))) in
    let yes : is_print (stmt_view ts c.s-item.result) ≡ true = sym (c.is_print.ensures.value ts) ∙ c.if-not-is_print.false in
    sym (ap (λ (b : Bool). b && rest) yes) ∙ sym (ap (λ (es : List Stmt). all_print (stmts_of es)) next) ∙ c.loop-s.invariant ts

pub returns : goal.returns
returns c = record {
  value = λ ts.
      let none = none_left c.args.stmts.now c.loop-s.s-index (omega (arith, c.loop-s-test.false)) in
      sym (sym (c.loop-s.invariant ts) ∙ ap (λ es. all_print (stmts_of (map (stmt_view ts) es))) none);
}
