-- What the parameters of the code stand for: those of go_typing.
use Rattle.std.specs.Prelude.{Option, Some, None, option_map}
use Rattle.std.specs.Borrow.{Bor}
use Rattle.go_syntax.specs.Tree as t
use Rattle.go_syntax.specs.View.{expr_view}
use Rattle.go_syntax.specs.declared.tree.Name.{Name}
use Rattle.go_syntax.specs.declared.tree.Param.{Param, out-Param}
use Rattle.go_typing.specs.Signature as go
use Rattle.go_items.specs.declared.items.param.Named.{Named}
use Rattle.go_items.specs.declared.items.param.Grouped.{Grouped}

abbrev pub named_view : Named → Name
named_view n = record { place = n.place; text = n.text.now }

abbrev pub grouped_view : Grouped → go.Param
grouped_view p = record { place = p.place; name = option_map named_view p.name; variadic = p.variadic; type_ = expr_view p.ty.now; has_type = p.has_type }

-- a name that stands where a type does
abbrev pub name_alone : t.Expr → Option Name
name_alone (t.NameExpr at x) = Some (record { place = at; text = x })
name_alone e = None

-- the type of the next one that has a name and a type
abbrev pub typed_view : Option (Bor Param) → Option go.Typed
typed_view o = option_map (λ p. record { variadic = (out-Param p.now).variadic; type_ = expr_view (out-Param p.now).ty }) o
