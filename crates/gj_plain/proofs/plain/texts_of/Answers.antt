use Rattle.std.proofs.Common.{◌+◌, ◌++◌, ◌∷◌, [], List, ℕ, sym, ap, ◌∙◌}
use Rattle.gj_plain.proofs.PlainLemmas.{before, texts_from, passes, prints, refuses, ends, whole}
use Rattle.gj_plain.proofs.plain.texts_of.Goals as goal

pub returns-in_default : goal.returns-in_default
returns-in_default c =
    sym (refuses c.args.stmts.now c.loop-stmt.stmt-index c.stmt-item.result c.loop-stmt.texts.items c.loop-stmt-test.true c.stmt-item.is (sym c.if-is_empty.ensures) c.in_default.ensures)
    ∙ c.loop-stmt.invariant ∙ whole c.args.stmts.now

pub loop-stmt-preserved-then-is_empty : goal.loop-stmt-preserved-then-is_empty
loop-stmt-preserved-then-is_empty c =
    sym (passes c.args.stmts.now c.loop-stmt.stmt-index c.stmt-item.result c.loop-stmt.texts.items c.loop-stmt-test.true c.stmt-item.is (sym c.if-is_empty.ensures)) ∙ c.loop-stmt.invariant

pub loop-stmt-preserved : goal.loop-stmt-preserved
loop-stmt-preserved c =
    let more = c.in_ok-push.ensures.items ∙ ap (λ (text : List ℕ). c.loop-stmt.texts.items ++ text ∷ []) c.in_ok-from_slice.ensures.value in
    ap (λ (texts : List (List ℕ)). before texts (texts_from c.args.stmts.now (c.loop-stmt.stmt-index + 1))) more
    ∙ sym (prints c.args.stmts.now c.loop-stmt.stmt-index c.stmt-item.result c.loop-stmt.texts.items c.in-Some.text.now c.loop-stmt-test.true c.stmt-item.is (sym c.if-is_empty.ensures) c.in-Some.ensures)
    ∙ c.loop-stmt.invariant

pub returns : goal.returns
returns c = sym (ends c.args.stmts.now c.loop-stmt.stmt-index c.loop-stmt.texts.items c.loop-stmt-test.false) ∙ c.loop-stmt.invariant ∙ whole c.args.stmts.now
