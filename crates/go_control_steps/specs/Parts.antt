-- Parts of steps that have a function of their own.
use Rattle.std.specs.Prelude.{List, [], ◌∷◌}
use Rattle.gj_base.specs.declared.place.Place.{Place}
use Rattle.go_syntax.specs.Tree as t
use Rattle.go_syntax.specs.Token.{Token}
use Rattle.go_syntax.specs.declared.operator.Operator.TheVariants as o
use Rattle.go_grammar.specs.Frames.{OfSwitch, Case, ClauseBody, SwitchPart, Stack, Flow, Goes, Stuck, new_ctx}
use Rattle.go_grammar.specs.ExprSteps.{if_op, then_expr}

-- after the expressions of a `case`
abbrev pub after_cases : Token → SwitchPart → Place → List t.Expr → Stack → Flow
after_cases u x at es s =
    if_op o.Comma u (then_expr (new_ctx x.blocks) (OfSwitch (Case x at es) ∷ s)) (if_op o.Colon u (Goes (OfSwitch (ClauseBody x at es []) ∷ s)) Stuck)
