-- Own: types of parameters and results, each of which may not be known.
use Rattle.std.specs.Prelude.{ℕ, ◌<◌, List, Option, IfSome, option_map}
use Rattle.std.specs.List.{AllByRecursion}
use Rattle.go_type.specs.Tree.{Ty}
use Rattle.go_type.specs.Levels.{tree_of}
use Rattle.go_type.specs.declared.types.TypeId.{TypeId}

-- a type that is known, as a tree
abbrev pub type_view : List Ty → Option TypeId → Option Ty
type_view ts o = option_map (tree_of ts) o

-- the types that are known are among the first of a table
abbrev pub TypeBelow : ℕ → Option TypeId → Type 0
TypeBelow n o = IfSome o (λ u. u.0 < n)

abbrev pub TypesBelow : ℕ → List (Option TypeId) → Type 0
TypesBelow n us = AllByRecursion (TypeBelow n) us
