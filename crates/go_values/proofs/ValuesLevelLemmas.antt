-- Ids of a table, and ids that it doesn't have.
use Rattle.std.proofs.Common.{◌∙◌, arith}
use Rattle.std.specs.Prelude.{◌≡◌, ◌≤◌, ◌+◌, List, [], ◌∷◌, ◌++◌, length}
use Rattle.std.proofs.lemmas.List.{length-append}
use Rattle.std.proofs.Math.ListN.{get_or-eq_default}
use Rattle.go_type.specs.Tree.{Ty, bool}
use Rattle.go_type.specs.Levels.{level, tree_of, trees_after, trees}
use Rattle.go_type.specs.Table.{places, size}
use Rattle.go_type.specs.declared.types.GoType.{GoType}
use Rattle.go_type.specs.declared.types.TypeId.{TypeId}
use Rattle.go_type.specs.declared.table.TypeTable.{TypeTable}

length_after : (ts : List Ty) (gs : List GoType) → length (trees_after ts gs) ≡ length ts + length gs
length_after ts [] = omega arith
length_after ts (g ∷ gs) =
    let e = length_after (ts ++ level ts g ∷ []) gs in
    let f = length-append ts (level ts g ∷ []) in
    omega (arith, e, f)

length_trees : (gs : List GoType) → length (trees gs) ≡ length gs
unfolding trees
length_trees gs = length_after [] gs ∙ omega arith

pub outside : (w : TypeTable) (t : TypeId) → size w ≤ t.0 → tree_of (places w) t ≡ bool
outside w t h =
    let e = length_trees w.levels.keys in
    get_or-eq_default (places w) bool (omega (arith, e, h))
