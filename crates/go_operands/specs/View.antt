-- What an environment of the code stands for: the environment of go_typing's specs/Scopes.
use Rattle.std.specs.Prelude.{List, map}
use Rattle.go_type.specs.Tree.{Ty}
use Rattle.go_type.specs.Levels.{tree_of, trees_of}
use Rattle.go_typing.specs.Env.{Decl, Bind, variable, global, constant, type_name, function, imported, built_in, nil_value, refused, unknown}
use Rattle.go_typing.specs.Scopes.{PackageScope}
use Rattle.go_operands.specs.BuiltinView.{builtin_view}
use Rattle.go_operands.specs.declared.scopes.declared.Declared.{Declared}
use Rattle.go_operands.specs.declared.scopes.declared.Declared.TheVariants as as_
use Rattle.go_operands.specs.Held.{Held, HeldPackage}

-- what a name stands for, with types as trees
abbrev pub decl_of : List Ty → Declared → Decl
decl_of ts (as_.Var v t) = variable v.0 (tree_of ts t)
decl_of ts (as_.Global n t) = global n (tree_of ts t)
decl_of ts (as_.Const k t) = constant k (tree_of ts t)
decl_of ts (as_.TypeName t) = type_name (tree_of ts t)
decl_of ts (as_.Func f s) = function f.0 (trees_of ts s.params) (trees_of ts s.results) s.variadic
decl_of ts (as_.Import path) = imported path
decl_of ts (as_.Builtin b) = built_in (builtin_view b)
decl_of ts as_.Nil = nil_value
decl_of ts (as_.Refused n) = refused n
decl_of ts as_.Unknown = unknown

abbrev pub bind_of : List Ty → Held → Bind
bind_of ts h = record { name = h.name; place = h.place; what = decl_of ts h.what }

abbrev pub binds_of : List Ty → List Held → List Bind
binds_of ts hs = map (bind_of ts) hs

abbrev pub package_of : List Ty → HeldPackage → PackageScope
package_of ts p = record { path = p.path; binds = binds_of ts p.binds }
