-- Values and faults so far, and what is still to come.
use Rattle.std.specs.Prelude.{List, [], ◌∷◌, ◌++◌, map}
use Rattle.go_type.specs.Tree.{Ty}
use Rattle.go_core.specs.CoreTree.{Expr, Exprs, expr}
use Rattle.go_core.specs.CoreView.{expr_view}
use Rattle.go_typing.specs.Answer.{Flaw}
use Rattle.go_typing.specs.Call.{Values, values, unfit}
use Rattle.go_operands.specs.AnswerView.{flaw_view}
use Rattle.go_calls.specs.declared.given.kinds.Passing.{Passing}

abbrev pub exprs_before : List Expr → Exprs → Exprs
exprs_before [] after = after
exprs_before (e ∷ es) after = expr e (exprs_before es after)

-- these values and faults, and then those to come
abbrev pub and_then : List Expr → List Flaw → Values → Values
and_then es [] (values gs) = values (exprs_before es gs)
and_then es [] (unfit f fs) = unfit f fs
and_then es (g ∷ gs) (values hs) = unfit g gs
and_then es (g ∷ gs) (unfit f fs) = unfit g (gs ++ f ∷ fs)

abbrev pub passing_then : List Ty → Passing → Values → Values
passing_then ts p vs = and_then (map (expr_view ts) p.values.items) (map flaw_view p.flaws.items) vs
