-- What a type of a table embeds is a type of the table.
use Rattle.std.proofs.Common.{◌≡◌, ℕ, zero, suc, ◌<◌, Bool, true, false, List, [], ◌∷◌, ◌++◌, Option, Some, None, get_or, length, map, refl, ap, sym, subst, arith}
use Rattle.std.specs.List.{slice_get, AllByRecursion}
use Rattle.go_type.specs.Tree.{Ty, bool, named}
use Rattle.go_type.specs.Levels.{tree_of, fields_of, level, trees, FieldsBelow, Below, Rises}
use Rattle.go_type.specs.Named.{NamedBelow, NamesBelow, named_of, under_of, UnderBelow}
use Rattle.go_type.specs.Underlying.{under_in, under_at, or_else}
use Rattle.go_type.specs.Members.{fields_in, base_of}
use Rattle.go_type.specs.Chains.{when_embedded, bases_of, embeds}
use Rattle.go_type.specs.declared.types.TypeId.{TypeId}
use Rattle.go_type.specs.declared.types.FieldRow.{FieldRow}
use Rattle.go_type.specs.declared.types.NamedType.{NamedType}
use Rattle.go_type.specs.declared.types.GoType.{GoType}
use Rattle.go_type.specs.declared.types.GoType.TheVariants as go
use Rattle.go_type.proofs.LevelLemmas.{length_trees, tree_is}
use Rattle.go_type.proofs.Growth.{below_wider}
use Rattle.go_type.proofs.Finite.{InPlaces}

level_at : (gs : List GoType) (i : ℕ) → i < length gs → (g : GoType) × (slice_get gs i ≡ Some g)
level_at [] i l = absurd (omega arith)
level_at (x ∷ gs) zero l = (x, refl)
level_at (x ∷ gs) (suc i) l = level_at gs i (omega arith)

pub name_at : (n : ℕ) (xs : List NamedType) (i : ℕ) → i < length xs → NamesBelow n xs → (x : NamedType) × (slice_get xs i ≡ Some x) × NamedBelow n x
name_at n [] i l b = absurd (omega arith)
name_at n (x ∷ xs) zero l b = (x, refl, b.0)
name_at n (x ∷ xs) (suc i) l b = name_at n xs i (omega arith) b.1

pub get_mapped : (ts : List Ty) (xs : List NamedType) (i : ℕ) (x : NamedType) → slice_get xs i ≡ Some x → slice_get (map (named_of ts) xs) i ≡ Some (named_of ts x)
get_mapped ts [] i x h = cc
get_mapped ts (y ∷ xs) zero x h = let e : y ≡ x = cc in ap (λ (z : NamedType). Some (named_of ts z)) e
get_mapped ts (y ∷ xs) (suc i) x h = get_mapped ts xs i x h

module _ (gs : List GoType) (xs : List NamedType) (rises : Rises (length xs) gs) (below : NamesBelow (length gs) xs) where
  pub in_places : (t : TypeId) → t.0 < length gs → InPlaces (trees gs) (tree_of (trees gs) t)
  in_places t l = (t.0, omega (arith, length_trees gs), refl)

  base_level : (g : GoType) → Below (length gs) (length xs) g → InPlaces (trees gs) (level (trees gs) g) → InPlaces (trees gs) (base_of (level (trees gs) g))
  base_level (go.Pointer t) b h = in_places t b
  base_level go.Bool b h = h
  base_level go.Str b h = h
  base_level (go.Int a) b h = h
  base_level go.Nil b h = h
  base_level (go.Untyped a) b h = h
  base_level (go.Array k t) b h = h
  base_level (go.Slice t) b h = h
  base_level (go.Struct fs) b h = h
  base_level (go.Func s) b h = h
  base_level (go.Interface ms) b h = h
  base_level (go.Map k v) b h = h
  base_level (go.Chan d t) b h = h
  base_level (go.Named i) b h = h
  base_level (go.Tuple is) b h = h

  pub tree_level : (t : TypeId) → t.0 < length gs → (g : GoType) × (tree_of (trees gs) t ≡ level (trees gs) g) × Below (length gs) (length xs) g
  tree_level t l =
      let x = level_at gs t.0 l in
      (x.0, tree_is (length xs) gs t.0 x.0 rises x.1, below_wider t.0 (length gs) (length xs) (omega arith) x.0 (rises t.0 x.0 x.1))

  base_in : (t : TypeId) → t.0 < length gs → InPlaces (trees gs) (base_of (tree_of (trees gs) t))
  base_in t l =
      let x = tree_level t l in
      subst (λ (u : Ty). InPlaces (trees gs) (base_of u)) (sym x.1) (base_level x.0 x.2 (subst (InPlaces (trees gs)) x.1 (in_places t l)))

  bases_in : (fs : List FieldRow) → FieldsBelow (length gs) fs → AllByRecursion (InPlaces (trees gs)) (bases_of (fields_of (trees gs) fs))
  bases_in [] b = tt
  bases_in (f ∷ fs) b = by f.embedded (bases_in fs b.1)
    where
      by : (e : Bool) → AllByRecursion (InPlaces (trees gs)) (bases_of (fields_of (trees gs) fs)) → AllByRecursion (InPlaces (trees gs)) (when_embedded e (tree_of (trees gs) f.ty) ++ bases_of (fields_of (trees gs) fs))
      by true r = (base_in f.ty b.0, r)
      by false r = r

  fields_level : (g : GoType) → Below (length gs) (length xs) g → AllByRecursion (InPlaces (trees gs)) (bases_of (fields_in (level (trees gs) g)))
  fields_level (go.Struct fs) b = bases_in fs b.0
  fields_level go.Bool b = tt
  fields_level go.Str b = tt
  fields_level (go.Int a) b = tt
  fields_level go.Nil b = tt
  fields_level (go.Untyped a) b = tt
  fields_level (go.Array k t) b = tt
  fields_level (go.Slice t) b = tt
  fields_level (go.Pointer t) b = tt
  fields_level (go.Func s) b = tt
  fields_level (go.Interface ms) b = tt
  fields_level (go.Map k v) b = tt
  fields_level (go.Chan d t) b = tt
  fields_level (go.Named i) b = tt
  fields_level (go.Tuple is) b = tt

  fields_closed : (t : TypeId) → t.0 < length gs → AllByRecursion (InPlaces (trees gs)) (bases_of (fields_in (tree_of (trees gs) t)))
  fields_closed t l =
      let x = tree_level t l in
      subst (λ (u : Ty). AllByRecursion (InPlaces (trees gs)) (bases_of (fields_in u))) (sym x.1) (fields_level x.0 x.2)

  under_closed : (id : ℕ) (u : Option TypeId) → UnderBelow (length gs) u → AllByRecursion (InPlaces (trees gs)) (bases_of (fields_in (or_else (under_of (trees gs) u) (named id))))
  under_closed id None b = tt
  under_closed id (Some t) b = fields_closed t b

  embeds_level : (g : GoType) → Below (length gs) (length xs) g → AllByRecursion (InPlaces (trees gs)) (embeds (map (named_of (trees gs)) xs) (level (trees gs) g))
  embeds_level (go.Named i) b =
      let x = name_at (length gs) xs i.0 b below in
      let e : under_at (map (named_of (trees gs)) xs) i.0 ≡ under_of (trees gs) x.0.under = ap under_in (get_mapped (trees gs) xs i.0 x.0 x.1) in
      subst (λ (o : Option Ty). AllByRecursion (InPlaces (trees gs)) (bases_of (fields_in (or_else o (named i.0))))) (sym e) (under_closed i.0 x.0.under x.2.0)
  embeds_level (go.Struct fs) b = bases_in fs b.0
  embeds_level go.Bool b = tt
  embeds_level go.Str b = tt
  embeds_level (go.Int a) b = tt
  embeds_level go.Nil b = tt
  embeds_level (go.Untyped a) b = tt
  embeds_level (go.Array k t) b = tt
  embeds_level (go.Slice t) b = tt
  embeds_level (go.Pointer t) b = tt
  embeds_level (go.Func s) b = tt
  embeds_level (go.Interface ms) b = tt
  embeds_level (go.Map k v) b = tt
  embeds_level (go.Chan d t) b = tt
  embeds_level (go.Tuple is) b = tt

  pub closed : (i : ℕ) → i < length (trees gs) → AllByRecursion (InPlaces (trees gs)) (embeds (map (named_of (trees gs)) xs) (get_or (trees gs) i bool))
  closed i l =
      let x = tree_level (record { 0 = i }) (omega (arith, length_trees gs)) in
      subst (λ (u : Ty). AllByRecursion (InPlaces (trees gs)) (embeds (map (named_of (trees gs)) xs) u)) (sym x.1) (embeds_level x.0 x.2)
