use Rattle.std.proofs.Common.{arith, ◌≡◌, ◌∙◌, ◌+◌, sym, ap, List, Bool, true, false, ◌&&◌, drop, map}
use Rattle.go_core.specs.CoreTree.{Expr}
use Rattle.go_core.specs.CoreView.{expr_view, exprs_of}
use Rattle.js_prints.specs.Prints.{are_texts, is_text}
use Rattle.js_prints.proofs.ListLemmas.{next_at, none_left}
use Rattle.js_prints.proofs.kind.are_texts.Goals as goal

pub returns-then-not-is_text : goal.returns-then-not-is_text
returns-then-not-is_text c = record {
  value = λ ts.
      let next = next_at (expr_view ts) c.args.es.now c.loop-e.e-index c.e-item.result c.loop-e-test.true c.e-item.is in
      let rest = are_texts (exprs_of (map (expr_view ts) (drop (c.loop-e.e-index + 1) c.args.es.now))) in
      let no : is_text (expr_view ts c.e-item.result) ≡ false = sym (c.is_text.ensures.value ts) ∙ c.if-not-is_text.true in
      sym (sym (c.loop-e.invariant ts) ∙ ap (λ (es : List Expr). are_texts (exprs_of es)) next ∙ ap (λ (b : Bool). b && rest) no);
}

pub loop-e-preserved : goal.loop-e-preserved
loop-e-preserved c = λ ts.
    let next = next_at (expr_view ts) c.args.es.now c.loop-e.e-index c.e-item.result c.loop-e-test.true c.e-item.is in
    let rest = are_texts (exprs_of (map (expr_view ts) (drop (c.loop-e.e-index + 1) c.args.es.now))) in
    let yes : is_text (expr_view ts c.e-item.result) ≡ true = sym (c.is_text.ensures.value ts) ∙ c.if-not-is_text.false in
    sym (ap (λ (b : Bool). b && rest) yes) ∙ sym (ap (λ (es : List Expr). are_texts (exprs_of es)) next) ∙ c.loop-e.invariant ts

pub returns : goal.returns
returns c = record {
  value = λ ts.
      let none = none_left c.args.es.now c.loop-e.e-index (omega (arith, c.loop-e-test.false)) in
      sym (sym (c.loop-e.invariant ts) ∙ ap (λ es. are_texts (exprs_of (map (expr_view ts) es))) none);
}
