use Rattle.std.proofs.Common.{◌∙◌, ◌++◌, ◌-◌, sym, ap, ℕ, List, length, take, drop, map}
use Rattle.go_core.specs.CoreView.{expr_view, exprs_of}
use Rattle.go_core.specs.Text.{line_of, rest_of_line}
use Rattle.js_prints.specs.Emitted.{text_in, texts_in}
use Rattle.js_prints.proofs.ListLemmas.{others_of}
use Rattle.js_prints.proofs.output.line.Goals as goal

pub returns-clause-value : goal.returns-clause-value
returns-clause-value c = λ ts.
    let es = c.args.operands.now in
    let whole = others_of es c.first-item.result c.in-len1-up.len_at_least c.first-item.is in
    let rest = rest_of_line (texts_in (exprs_of (map (expr_view ts) (take (length es - 1) (drop 1 es))))) in
    c.in_ok-push_rest.ensures.value ts
    ∙ ap (λ (text : List ℕ). text ++ rest) (c.in_ok-push_operand.ensures.value ts ∙ ap (λ (text : List ℕ). text ++ text_in (expr_view ts c.first-item.result)) c.new-text.ensures)
    ∙ sym (ap (λ fs. line_of (texts_in (exprs_of (map (expr_view ts) fs)))) whole)
