-- What the declarations of the code stand for: the items of go_typing.
use Rattle.std.specs.Prelude.{List, [], ◌∷◌, ◌++◌, Option, Some, None, map, option_map}
use Rattle.std.specs.Borrow.{Bor}
use Rattle.go_syntax.specs.Tree as t
use Rattle.go_syntax.specs.View.{expr_view, exprs_of, maybe_expr, sig_view}
use Rattle.go_syntax.specs.declared.tree.Expr.{Expr}
use Rattle.go_syntax.specs.declared.tree.Name.{Name}
use Rattle.go_syntax.specs.declared.tree.ValueSpec.{ValueSpec, out-ValueSpec}
use Rattle.go_typing.specs.Items as go
use Rattle.go_items.specs.declared.items.item.Item.{Item}
use Rattle.go_items.specs.declared.items.item.Item.TheVariants as item

-- the names of a specification; its type and its values, if there is one
abbrev pub names_in : ValueSpec → List Name
names_in s = (out-ValueSpec s).names.items

abbrev pub type_in : Option (Bor ValueSpec) → t.MaybeExpr
type_in None = t.NoExpr
type_in (Some s) = maybe_expr (option_map expr_view (out-ValueSpec s.now).ty)

abbrev pub values_in : Option (Bor ValueSpec) → t.Exprs
values_in None = t.NoExprs
values_in (Some s) = exprs_of (map expr_view (out-ValueSpec s.now).values.items)

abbrev pub value_of : Option (Bor Expr) → Option t.Expr
value_of o = option_map (λ e. expr_view e.now) o

abbrev pub item_view : Item → go.Item
item_view (item.Constant n k s v) = go.constant_item n.now k (type_in s) (value_of v) (values_in s)
item_view (item.Type n k e) = go.type_item n.now k (expr_view e.now)
item_view (item.Alias n e) = go.alias_item n.now (expr_view e.now)
item_view (item.Function n id s) = go.function_item n.now id.0 (sig_view s.now)
item_view (item.Variable n) = go.variable_item n.now
item_view (item.Init n) = go.init_item n.now

-- the declarations of files, one file after the other
abbrev pub decls_of : List t.File → List t.Decl
decls_of [] = []
decls_of (f ∷ fs) = f.decls ++ decls_of fs
