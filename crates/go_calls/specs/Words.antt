-- What an environment shows where an expression is typed: its types, the named ones, and what is in scope.
use Rattle.std.specs.Prelude.{List}
use Rattle.go_type.specs.Tree.{Ty}
use Rattle.go_type.specs.Named.{NamedTy}
use Rattle.go_type.specs.Table.{places, names}
use Rattle.go_typing.specs.Env.{Bind}
use Rattle.go_typing.specs.Scopes.{visible}
use Rattle.go_operands.specs.declared.scopes.env.Env.{Env}
use Rattle.go_operands.specs.EnvView.{table_of, env_of}

-- the trees of its types, by id
abbrev pub types_of : Env → List Ty
types_of e = places (table_of e)

abbrev pub names_of : Env → List NamedTy
names_of e = names (table_of e)

abbrev pub scopes_of : Env → List (List Bind)
scopes_of e = visible (env_of e)
