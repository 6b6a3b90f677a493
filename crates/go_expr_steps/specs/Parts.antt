-- Parts of steps, where the code has a function of its own for them.
use Rattle.std.specs.Prelude.{◌∷◌, [], ℕ, Option, Some, is_some, if◌then◌else◌}
use Rattle.go_syntax.specs.Tree as t
use Rattle.go_syntax.specs.declared.operator.Operator.TheVariants as o
use Rattle.go_grammar.specs.Frames as f
use Rattle.go_syntax.specs.Token.{Token}
use Rattle.go_grammar.specs.Context.{takes_literal}
use Rattle.go_grammar.specs.ExprSteps.{close_literal, if_op, if_room, if_short}
use Rattle.go_grammar.specs.Nodes.{place_of_expr}

-- an expression before `:` is the key of an element that has none yet
abbrev pub as_key : f.Braces → f.Elems → Option t.Expr → t.Expr → f.Stack → f.Flow
as_key x elems key e s = if is_some key then f.Stuck else f.Goes (f.OfPart (f.Keyed x elems e) ∷ s)

-- after an element of a literal
abbrev pub after_element : Token → f.Braces → f.Elems → f.Stack → f.Flow
after_element u x elems s = if_op o.Comma u (f.Goes (f.OfPart (f.InBraces x elems) ∷ s)) (if_op o.RightBrace u (close_literal x elems x.ty s) f.Stuck)

-- after the `{` that follows an operand
abbrev pub open_literal : Token → f.Ctx → ℕ → t.Expr → f.Stack → f.Flow
open_literal u c n e s =
    if takes_literal c.header e
    then if_room c (if_short n u.place (f.Goes (f.OfPart (f.InBraces (record { ctx = c; count = n; place = place_of_expr e; ty = Some e }) []) ∷ s)))
    else f.Over (f.AnExpr e) s
