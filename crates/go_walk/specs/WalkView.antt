-- What the code's walk stands for: the walk of go_typing.
use Rattle.std.specs.Prelude.{◌≡◌, ℕ, ◌<◌, ◌++◌, List, [], ◌∷◌, Some, map, length}
use Rattle.go_type.specs.Tree.{Ty}
use Rattle.go_type.specs.Named.{NamedTy}
use Rattle.go_type.specs.Levels.{tree_of}
use Rattle.go_type.specs.Table.{places, names, size}
use Rattle.go_type.specs.declared.types.TypeId.{TypeId}
use Rattle.go_type.specs.declared.table.TypeTable.{TypeTable}
use Rattle.go_core.specs.CoreView.{var_of}
use Rattle.go_typing.specs.Scopes.{visible}
use Rattle.go_operands.specs.declared.scopes.env.Env.{Env}
use Rattle.go_operands.specs.EnvView.{table_of, env_of}
use Rattle.go_typing.specs.Walk as go
use Rattle.go_walk.specs.declared.walk.walk.Walk.{Walk}

-- the trees of a table's ids, also in a list that has more
abbrev pub Keeps : TypeTable → List Ty → Type 0
Keeps t ts = (i : TypeId) → i.0 < size t → tree_of ts i ≡ tree_of (places t) i

-- over the trees of its variables' types
abbrev pub walk_of : List Ty → Walk → go.Walk
walk_of ts w = record {
  names = names (table_of w.env);
  scopes = visible (env_of w.env);
  next = w.next;
  next_label = w.next_label;
  vars = map (var_of ts) w.vars.items;
  declared = w.declared.items;
  used = w.used.items;
  lost = w.lost;
}

-- outside all functions
abbrev pub walk_outside : Env → go.Walk
walk_outside e = record { names = names (table_of e); scopes = visible (env_of e); next = 0; next_label = 0; vars = []; declared = []; used = []; lost = 0 }

-- in a function's own scope
abbrev pub begun : go.Walk → go.Walk
begun w = record w { scopes = w.scopes ++ [] ∷ []; vars = []; next_label = 0; declared = []; used = []; lost = 0 }

-- how many blocks are open
abbrev pub depth : Walk → ℕ
depth w = length (env_of w.env).blocks

-- own: a named type that a function declares
abbrev pub named_for : List ℕ → Ty → NamedTy
named_for x u = record { name = x; package_ = []; under = Some u; methods = [] }
