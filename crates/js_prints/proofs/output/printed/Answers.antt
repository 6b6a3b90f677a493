use Rattle.std.proofs.Common.{◌∙◌, sym, ap, Bool, map}
use Rattle.std.proofs.lemmas.Result.{IfOk-weaker}
use Rattle.go_core.specs.CoreView.{expr_view, exprs_of}
use Rattle.js_prints.specs.Emitted.{output, texts_in}
use Rattle.js_prints.proofs.output.printed.Goals as goal

pub returns-then-ends_line-clause-value : goal.returns-then-ends_line-clause-value
returns-then-ends_line-clause-value c =
    IfOk-weaker c.line.result _ _ (λ t h ts. h ts ∙ ap (λ (b : Bool). output b (texts_in (exprs_of (map (expr_view ts) c.args.operands.now)))) (sym c.if-ends_line.true)) c.line.ensures.value

pub returns-else-ends_line-clause-value : goal.returns-else-ends_line-clause-value
returns-else-ends_line-clause-value c =
    IfOk-weaker c.side_by_side.result _ _ (λ t h ts. h ts ∙ ap (λ (b : Bool). output b (texts_in (exprs_of (map (expr_view ts) c.args.operands.now)))) (sym c.if-ends_line.false)) c.side_by_side.ensures.value
