use Rattle.std.proofs.Common.{arith, ◌∙◌, ◌+◌, ◌++◌, sym, ap, append_assoc, append-nil, ℕ, List, drop, map}
use Rattle.go_core.specs.CoreTree.{Expr}
use Rattle.go_core.specs.CoreView.{expr_view, exprs_of}
use Rattle.go_core.specs.Text.{joined}
use Rattle.js_prints.specs.Emitted.{text_in, texts_in}
use Rattle.js_prints.proofs.ListLemmas.{next_at, none_left}
use Rattle.js_prints.proofs.output.side_by_side.Goals as goal

pub loop-operand-preserved : goal.loop-operand-preserved
loop-operand-preserved c = record {
  written = λ ts.
      let next = next_at (expr_view ts) c.args.operands.now c.loop-operand.operand-index c.operand-item.result c.loop-operand-test.true c.operand-item.is in
      let rest = joined (texts_in (exprs_of (map (expr_view ts) (drop (c.loop-operand.operand-index + 1) c.args.operands.now)))) in
      ap (λ (text : List ℕ). text ++ rest) (c.in_ok-push_operand.ensures.value ts)
      ∙ append_assoc c.loop-operand.text (text_in (expr_view ts c.operand-item.result)) rest
      ∙ sym (ap (λ (es : List Expr). c.loop-operand.text ++ joined (texts_in (exprs_of es))) next)
      ∙ c.loop-operand.invariant.written ts;
  bytes = c.in_ok-push_operand.ensures.bytes c.loop-operand.invariant.bytes;
}

pub returns-clause-value : goal.returns-clause-value
returns-clause-value c = λ ts.
    let none = none_left c.args.operands.now c.loop-operand.operand-index (omega (arith, c.loop-operand-test.false)) in
    sym (append-nil c.loop-operand.text)
    ∙ sym (ap (λ es. c.loop-operand.text ++ joined (texts_in (exprs_of (map (expr_view ts) es)))) none)
    ∙ c.loop-operand.invariant.written ts
