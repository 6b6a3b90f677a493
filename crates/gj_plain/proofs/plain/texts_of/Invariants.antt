use Rattle.std.proofs.Common.{◌≡◌}
use Rattle.gj_plain.proofs.PlainLemmas.{before, texts_from}
use Rattle.gj_plain.proofs.plain.texts_of.Given as goal

-- the texts so far and those of what is left
abbrev pub invariant-loop-stmt : goal.invariant-loop-stmt
invariant-loop-stmt l = before l.texts.items (texts_from l.stmts l.stmt-index) ≡ texts_from l.stmts 0
