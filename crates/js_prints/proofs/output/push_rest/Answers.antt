use Rattle.std.proofs.Common.{arith, ◌∙◌, ◌+◌, ◌++◌, [], ◌∷◌, refl, sym, ap, append_assoc, ℕ, List, drop, map}
use Rattle.go_core.specs.CoreTree.{Expr}
use Rattle.go_core.specs.CoreView.{expr_view, exprs_of}
use Rattle.go_core.specs.Text.{rest_of_line}
use Rattle.js_prints.specs.Emitted.{text_in, texts_in}
use Rattle.js_prints.proofs.Printing.{byte_after}
use Rattle.js_prints.proofs.ListLemmas.{next_at, none_left}
use Rattle.js_prints.proofs.output.push_rest.Goals as goal

pub loop-operand-preserved : goal.loop-operand-preserved
loop-operand-preserved c = record {
  written = λ ts.
      let next = next_at (expr_view ts) c.args.others.now c.loop-operand.operand-index c.operand-item.result c.loop-operand-test.true c.operand-item.is in
      let rest = rest_of_line (texts_in (exprs_of (map (expr_view ts) (drop (c.loop-operand.operand-index + 1) c.args.others.now)))) in
      ap (λ (text : List ℕ). text ++ rest) (c.in_ok-push_operand.ensures.value ts)
      ∙ append_assoc c.push.new.self (text_in (expr_view ts c.operand-item.result)) rest
      ∙ ap (λ (text : List ℕ). text ++ (text_in (expr_view ts c.operand-item.result) ++ rest)) c.in_ok-push.ensures.value
      ∙ append_assoc c.loop-operand.text (32 ∷ []) (text_in (expr_view ts c.operand-item.result) ++ rest)
      ∙ sym (ap (λ (es : List Expr). c.loop-operand.text ++ rest_of_line (texts_in (exprs_of es))) next)
      ∙ c.loop-operand.invariant.written ts;
  bytes = λ before. c.in_ok-push_operand.ensures.bytes (byte_after c.loop-operand.text c.push.new.self 32 c.in_ok-push.ensures.value refl (c.loop-operand.invariant.bytes before));
}

pub returns-clause-value : goal.returns-clause-value
returns-clause-value c = λ ts.
    let none = none_left c.args.others.now c.loop-operand.operand-index (omega (arith, c.loop-operand-test.false)) in
    c.in_ok-push-2.ensures.value
    ∙ sym (ap (λ es. c.loop-operand.text ++ rest_of_line (texts_in (exprs_of (map (expr_view ts) es)))) none)
    ∙ c.loop-operand.invariant.written ts
