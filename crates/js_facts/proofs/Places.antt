-- An id past a table has the first type's tree.
use Rattle.std.proofs.Common.{◌≡◌, ◌≤◌, ℕ, zero, suc, ◌+◌, List, [], ◌∷◌, ◌++◌, length, get_or, arith, refl, sym, ap, ◌∙◌, subst}
use Rattle.std.proofs.lemmas.List.{length-append}
use Rattle.go_type.specs.Tree.{Ty}
use Rattle.go_type.specs.Tree as tree
use Rattle.go_type.specs.Levels.{level, tree_of, trees, trees_after}
use Rattle.go_type.specs.Table.{places, names, size}
use Rattle.go_type.specs.Underlying.{underlying}
use Rattle.go_type.specs.declared.table.TypeTable.{TypeTable}
use Rattle.go_type.specs.declared.types.TypeId.{TypeId}
use Rattle.go_type.specs.declared.types.GoType.{GoType}
use Rattle.js_facts.specs.Held.{truth, held_tree, how_held}

past : {A : Type 0} (xs : List A) (n : ℕ) (d : A) → length xs ≤ n → get_or xs n d ≡ d
past [] n d h = refl
past (x ∷ xs) zero d h = absurd (omega (arith, h))
past (x ∷ xs) (suc n) d h = past xs n d (omega (arith, h))

after_length : (gs : List GoType) (ts : List Ty) → length (trees_after ts gs) ≡ length ts + length gs
after_length [] ts = omega arith
after_length (g ∷ gs) ts =
    let a = after_length gs (ts ++ level ts g ∷ []) in
    let b = length-append ts (level ts g ∷ []) in
    omega (arith, a, b)

trees_length : (gs : List GoType) → length (trees gs) ≡ length gs
unfolding trees
trees_length gs = let a = after_length gs [] in omega (arith, a)

pub past_tree : (table : TypeTable) (t : TypeId) → size table ≤ t.0 → tree_of (places table) t ≡ tree.bool
past_tree table t h = past (trees table.levels.keys) t.0 tree.bool (subst (λ (n : ℕ). n ≤ t.0) (sym (trees_length table.levels.keys)) h)

pub past_held : (table : TypeTable) (t : TypeId) → size table ≤ t.0 → truth ≡ how_held table t
past_held table t h = sym (ap (λ (u : Ty). held_tree (underlying (names table) u)) (past_tree table t h))
