-- What a table shows: the tree of each id, and the named types.
use Rattle.std.specs.Prelude.{◌≡◌, ℕ, ◌<◌, List, [], ◌∷◌, ◌++◌, ◌⊎◌, map, length}
use Rattle.go_type.specs.Tree.{Ty}
use Rattle.go_type.specs.Levels.{trees, tree_of}
use Rattle.go_type.specs.declared.types.TypeId.{TypeId}
use Rattle.go_type.specs.Named.{NamedTy, named_of}
use Rattle.go_type.specs.declared.table.TypeTable.{TypeTable}

-- the tree of each id
abbrev pub places : TypeTable → List Ty
places t = trees t.levels.keys

-- how many ids there are
abbrev pub size : TypeTable → ℕ
size t = length t.levels.keys

-- the named types by id
abbrev pub names : TypeTable → List NamedTy
names t = map (named_of (trees t.levels.keys)) t.names.items

-- how many named types there are
abbrev pub name_count : TypeTable → ℕ
name_count t = length t.names.items

-- nothing more, or this tree at the end
abbrev pub IsAdded : List Ty → Ty → List Ty → Type 0
IsAdded old t new = (new ≡ old) ⊎ (new ≡ old ++ t ∷ [])

-- the ids of the old table have the trees that they had
abbrev pub KeepsTrees : TypeTable → TypeTable → Type 0
KeepsTrees old new = (t : TypeId) → t.0 < size old → tree_of (places new) t ≡ tree_of (places old) t
