-- The trees of a table by their ids.
use Rattle.std.proofs.Common.{◌∙◌, arith}
use Rattle.std.specs.Prelude.{◌≡◌, ◌<◌, ◌+◌, ℕ, List, [], ◌∷◌, ◌++◌, length, All}
use Rattle.std.proofs.lemmas.List.{length-append}
use Rattle.std.proofs.lemmas.List.Elements.{All-from_get_or}
use Rattle.go_type.specs.Tree.{Ty, bool}
use Rattle.go_type.specs.Levels.{level, tree_of, trees_after, trees}
use Rattle.go_type.specs.Table.{places, size}
use Rattle.go_type.specs.declared.types.GoType.{GoType}
use Rattle.go_type.specs.declared.table.TypeTable.{TypeTable}

length_after : (ts : List Ty) (gs : List GoType) → length (trees_after ts gs) ≡ length ts + length gs
length_after ts [] = omega arith
length_after ts (g ∷ gs) =
    let e = length_after (ts ++ level ts g ∷ []) gs in
    let f = length-append ts (level ts g ∷ []) in
    omega (arith, e, f)

pub length_trees : (gs : List GoType) → length (trees gs) ≡ length gs
unfolding trees
length_trees gs = length_after [] gs ∙ omega arith

-- what holds of each id's tree holds of all trees
pub all_trees : (w : TypeTable) (P : Ty → Type 0) → ((k : ℕ) → k < size w → P (tree_of (places w) (record { 0 = k }))) → All P (places w)
all_trees w P f = All-from_get_or P (places w) bool (λ k l. f k (let e = length_trees w.levels.keys in omega (arith, e, l)))
