use Rattle.std.proofs.Common.{◌≡◌, List, drop, map}
use Rattle.go_type.specs.Tree.{Ty}
use Rattle.go_core.specs.CoreView.{expr_view, exprs_of}
use Rattle.js_prints.specs.Prints.{are_texts}
use Rattle.js_prints.proofs.kind.are_texts.Given as goal

-- the operands so far are texts
abbrev pub invariant-loop-e : goal.invariant-loop-e
invariant-loop-e l = (ts : List Ty) → are_texts (exprs_of (map (expr_view ts) (drop l.e-index l.es))) ≡ are_texts (exprs_of (map (expr_view ts) l.es))
