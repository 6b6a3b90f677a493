-- Parts of steps that have a function of their own.
use Rattle.std.specs.Prelude.{ℕ, List, ◌∷◌}
use Rattle.gj_base.specs.declared.place.Place.{Place}
use Rattle.go_syntax.specs.Tree as t
use Rattle.go_syntax.specs.Token.{Token}
use Rattle.go_syntax.specs.View.{exprs_of}
use Rattle.go_syntax.specs.declared.operator.Operator.TheVariants as o
use Rattle.go_grammar.specs.Frames.{AStmt, OfStmt, Returned, Stack, Flow, Over, new_ctx}
use Rattle.go_grammar.specs.ExprSteps.{if_op, then_expr}

-- after the expressions of a `return`
abbrev pub end_return : Token → ℕ → Place → List t.Expr → Stack → Flow
end_return u b at es s =
    if_op o.Comma u (then_expr (new_ctx b) (OfStmt (Returned b at es) ∷ s)) (Over (AStmt (t.ReturnStmt at (exprs_of es))) s)
