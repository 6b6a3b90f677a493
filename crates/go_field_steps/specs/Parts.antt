-- Parts of steps, where the code has a function of its own for them.
use Rattle.std.specs.Prelude.{◌∷◌, Bool, Option}
use Rattle.gj_base.specs.declared.place.Place.{Place}
use Rattle.go_syntax.specs.Tree as t
use Rattle.go_syntax.specs.declared.operator.Operator.TheVariants as o
use Rattle.go_syntax.specs.declared.tree.Name.{Name}
use Rattle.go_grammar.specs.Frames as f
use Rattle.go_syntax.specs.Token.{Token}
use Rattle.go_grammar.specs.ExprSteps.{close_params, if_op}
use Rattle.go_grammar.specs.Nodes.{and}

-- the list with one more parameter
abbrev pub with_param : f.ParamsPart → Place → Option Name → Bool → t.Expr → f.ParamsPart
with_param x at y variadic e = record x { items = and x.items (λ rest. t.MoreParams at y variadic e rest) }

-- after a parameter
abbrev pub after_param : Token → f.ParamsPart → f.Stack → f.Flow
after_param u x s = if_op o.Comma u (f.Goes (f.OfSig (f.InParams x) ∷ s)) (if_op o.RightParen u (close_params x x.role s) f.Stuck)
