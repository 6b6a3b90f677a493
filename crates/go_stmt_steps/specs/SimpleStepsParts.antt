-- Parts of steps that have a function of their own.
use Rattle.std.specs.Prelude.{Bool, true, not, List, ◌∷◌, Option, ◌&&◌, ◌||◌, if◌then◌else◌}
use Rattle.gj_base.specs.declared.kind.Op.{Op}
use Rattle.go_syntax.specs.Tree as t
use Rattle.go_syntax.specs.Token.{Token}
use Rattle.go_syntax.specs.View.{exprs_of}
use Rattle.go_syntax.specs.declared.operator.Operator.TheVariants as o
use Rattle.go_syntax.specs.declared.tree.Name.{Name}
use Rattle.go_grammar.specs.Classes.{assign_op}
use Rattle.go_grammar.specs.Context.{is_name}
use Rattle.go_grammar.specs.Frames.{Spot, AStmt, ADecl, OfStmt, OfDecl, Simple, Right, Assigned, Defined, ValuesPart, TypesPart, ValueGroup, ValueExprs, TypeGroup, Done, Stack, Flow, Goes, Over, Stuck, new_ctx}
use Rattle.go_grammar.specs.Nodes.{is_op, and}
use Rattle.go_grammar.specs.ExprSteps.{if_op, then_expr}
use Rattle.go_grammar.specs.StmtSteps.{if_semicolon, after_assign_op, value_decl, type_decl, end_value}

-- the end of a header of a `switch` that follows its `;`, by whether its last expression is a name
abbrev pub end_tag : Token → Spot → List t.Expr → Bool → Stack → Flow
end_tag u x es named s =
    if is_op o.Define u && named then Goes (OfStmt (Right x es true) ∷ s)
    else Over (AStmt (t.ExprStmt x.place (exprs_of es))) s

-- after the expression of a header of a `switch` that follows its `;`
abbrev pub after_tag : Token → Spot → List t.Expr → t.Expr → Stack → Flow
after_tag u x es e s =
    if is_op o.Define u && is_name e then Goes (OfStmt (Right x (and es e) true) ∷ s)
    else Over (AStmt (t.ExprStmt x.place (exprs_of (and es e)))) s

-- after the expressions on the left, or alone, elsewhere
abbrev pub after_listed : Token → Spot → List t.Expr → Stack → Flow
after_listed u x es s =
    if_op o.Comma u (then_expr x.ctx (OfStmt (Simple x es) ∷ s))
    (if is_op o.Assign u || is_op o.Define u then Goes (OfStmt (Right x es (is_op o.Define u)) ∷ s)
    else after_assign_op u x es (assign_op u.kind) s)

-- after the expressions on the right of `=` or `op=`
abbrev pub end_assigned : Token → Spot → List t.Expr → Option Op → List t.Expr → Stack → Flow
end_assigned u x es op fs s =
    if_op o.Comma u (then_expr x.ctx (OfStmt (Assigned x es op fs) ∷ s)) (Over (AStmt (t.AssignStmt x.place (exprs_of es) op (exprs_of fs))) s)

-- after the expressions on the right of `:=`
abbrev pub end_defined : Token → Spot → List t.Expr → List t.Expr → Stack → Flow
end_defined u x es fs s =
    if_op o.Comma u (then_expr x.ctx (OfStmt (Defined x es fs) ∷ s)) (Over (AStmt (t.DefineStmt x.place (exprs_of es) (exprs_of fs))) s)

-- after the values of a Spec
abbrev pub after_values : Token → ValuesPart → List Name → t.MaybeExpr → List t.Expr → Stack → Flow
after_values u x ys ty es s =
    if_op o.Comma u (then_expr (new_ctx x.blocks) (OfDecl (ValueExprs x ys ty es) ∷ s)) (end_value u x ys ty es s)

-- after a Spec of constants or variables
abbrev pub after_spec : Token → ValuesPart → Stack → Flow
after_spec u x s =
    if not x.group then Over (ADecl (value_decl x)) s
    else (if_semicolon u (Goes (OfDecl (ValueGroup x) ∷ s)) (if_op o.RightParen u (Goes (Done (ADecl (value_decl x)) ∷ s)) Stuck))

-- after a Spec of a type
abbrev pub after_type : Token → TypesPart → Stack → Flow
after_type u x s =
    if not x.group then Over (ADecl (type_decl x)) s
    else (if_semicolon u (Goes (OfDecl (TypeGroup x) ∷ s)) (if_op o.RightParen u (Goes (Done (ADecl (type_decl x)) ∷ s)) Stuck))
