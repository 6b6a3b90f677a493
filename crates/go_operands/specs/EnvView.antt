-- What an environment of the code stands for: go_typing's specs/Scopes.
use Rattle.std.specs.Prelude.{◌≡◌, ℕ, ◌==◌, ◌&&◌, List, Bool, Option, Some, None, map}
use Rattle.std.specs.Map.{lookup}
use Rattle.gj_base.specs.declared.place.Place.{Place}
use Rattle.go_core.specs.declared.tree.FuncId.{FuncId}
use Rattle.go_type.specs.Named.{NamedTy}
use Rattle.go_type.specs.Table.{places, names}
use Rattle.go_type.specs.declared.table.TypeTable.{TypeTable}
use Rattle.go_typing.specs.Scopes as scopes
use Rattle.go_operands.specs.declared.scopes.declared.Declared.{Declared}
use Rattle.go_operands.specs.declared.scopes.env.Env.{Env}
use Rattle.go_operands.specs.Held.{HeldPackage, what_in, place_held, held_at}
use Rattle.go_operands.specs.Holds.{held, held_blocks, held_packages}
use Rattle.go_operands.specs.Counted.{number_of}
use Rattle.go_operands.specs.View.{binds_of, package_of}

-- its types
abbrev pub table_of : Env → TypeTable
table_of e = e.table

-- its named types and scopes, with types as trees
abbrev pub env_of : Env → scopes.Env
env_of e = record {
  named_types = names e.table;
  universe_scope = binds_of (places e.table) (held e.universe);
  packages = map (package_of (places e.table)) (held_packages e.packages);
  current = e.current;
  blocks = map (binds_of (places e.table)) (held_blocks e.blocks);
  iota = number_of e.iota.what;
}

abbrev pub with_types : List NamedTy → scopes.Env → scopes.Env
with_types ns env = record env { named_types = ns }

abbrev pub same_place : Place → Place → Bool
same_place p q = (p.file == q.file) && (p.offset == q.offset)

-- the number of the function literal at a place
abbrev pub number_at : Place → Env → Option FuncId
number_at q e = lookup (same_place q) e.literals.entries

-- the numbers of literals stay
abbrev pub KeepsLiterals : Env → Env → Type 0
KeepsLiterals old new = (q : Place) → number_at q new ≡ number_at q old

-- the types and the numbers of literals stay
abbrev pub KeepsRest : Env → Env → Type 0
KeepsRest old new = (table_of new ≡ table_of old) × KeepsLiterals old new

-- own: what a name stands for in the scope of the package that was entered
abbrev pub what_current : List ℕ → Option (List ℕ) → List HeldPackage → Option Declared
what_current x None ps = None
what_current x (Some path) ps = what_in x (held_at path ps)

-- own: where it is declared there
abbrev pub place_current : List ℕ → Option (List ℕ) → List HeldPackage → Option Place
place_current x None ps = None
place_current x (Some path) ps = place_held x (held_at path ps)
