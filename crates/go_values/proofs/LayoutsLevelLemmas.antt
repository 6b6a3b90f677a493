-- Ids of a table, and ids that it doesn't have; fields by their places.
use Rattle.std.proofs.Common.{refl, sym, ap, ◌∙◌, arith}
use Rattle.std.specs.Prelude.{◌≡◌, ◌<◌, ◌≤◌, ℕ, zero, suc, ◌+◌, List, [], ◌∷◌, ◌++◌, length, drop, get_or}
use Rattle.std.proofs.lemmas.List.{length-append, length-map}
use Rattle.std.proofs.Math.ListN.{get_or-eq_default}
use Rattle.go_type.specs.Tree.{Ty, bool}
use Rattle.go_type.specs.Levels.{level, tree_of, trees_after, trees, FieldsBelow}
use Rattle.go_type.specs.Named.{named_of}
use Rattle.go_type.specs.Table.{places, size, names, name_count}
use Rattle.go_type.specs.declared.types.FieldRow.{FieldRow}
use Rattle.go_type.specs.declared.types.GoType.{GoType}
use Rattle.go_type.specs.declared.types.TypeId.{TypeId}
use Rattle.go_type.specs.declared.table.TypeTable.{TypeTable}

length_after : (ts : List Ty) (gs : List GoType) → length (trees_after ts gs) ≡ length ts + length gs
length_after ts [] = omega arith
length_after ts (g ∷ gs) =
    let e = length_after (ts ++ level ts g ∷ []) gs in
    let f = length-append ts (level ts g ∷ []) in
    omega (arith, e, f)

length_trees : (gs : List GoType) → length (trees gs) ≡ length gs
unfolding trees
length_trees gs = length_after [] gs ∙ omega arith

pub outside : (w : TypeTable) (t : TypeId) → size w ≤ t.0 → tree_of (places w) t ≡ bool
outside w t h =
    let e = length_trees w.levels.keys in
    get_or-eq_default (places w) bool (omega (arith, e, h))

pub count_names : (w : TypeTable) → name_count w ≡ length (names w)
count_names w = sym (length-map w.names.items (named_of (trees w.levels.keys)))

-- a field with what stands after it
pub record Uncons (fs : List FieldRow) (i : ℕ) : Type 0 where
  pub first : FieldRow
  pub split : drop i fs ≡ first ∷ drop (i + 1) fs
  pub at : (d : FieldRow) → get_or fs i d ≡ first

pub uncons : (fs : List FieldRow) (i : ℕ) → i < length fs → Uncons fs i
uncons [] i h = absurd (omega (arith, h))
uncons (f ∷ fs) zero h = record { first = f; split = refl; at = λ d. refl }
uncons (f ∷ fs) (suc i) h =
    let r = uncons fs i (omega (arith, h)) in
    let e : suc (i + 1) ≡ suc i + 1 = omega arith in
    record {
      first = r.first;
      split = r.split ∙ ap (λ (k : ℕ). r.first ∷ drop k (f ∷ fs)) e;
      at = λ d. r.at d;
    }

pub below_read : (n : ℕ) (fs : List FieldRow) (i : ℕ) (d : FieldRow) → FieldsBelow n fs → i < length fs → (get_or fs i d).ty.0 < n
below_read n [] i d b h = absurd (omega (arith, h))
below_read n (f ∷ fs) zero d b h = b.0
below_read n (f ∷ fs) (suc i) d b h = below_read n fs i d b.1 (omega (arith, h))
