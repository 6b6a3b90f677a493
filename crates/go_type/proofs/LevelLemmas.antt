-- What the trees of a table's levels are.
use Rattle.std.proofs.Common.{◌≡◌, ℕ, zero, suc, ◌+◌, ◌<◌, List, [], ◌∷◌, ◌++◌, Some, get_or, length, length-append, refl, ap, sym, ◌∙◌, subst, arith, add-zero}
use Rattle.std.specs.List.{slice_get}
use Rattle.std.proofs.lemmas.Grind.{common_steps}
use Rattle.go_type.specs.Tree.{Ty, Tys, Fields, Specs, bool, more_tys, more_fields, more_specs}
use Rattle.go_type.specs.Tree as tree
use Rattle.go_type.specs.Levels.{trees_of, fields_of, specs_of, level, trees_after, trees, IdsBelow, FieldsBelow, SpecsBelow, Below, Rises}
use Rattle.go_type.specs.declared.types.TypeId.{TypeId}
use Rattle.go_type.specs.declared.types.FieldRow.{FieldRow}
use Rattle.go_type.specs.declared.types.MethodSpec.{MethodSpec}
use Rattle.go_type.specs.declared.types.GoType.{GoType}
use Rattle.go_type.specs.declared.types.GoType.TheVariants as go

-- the first n trees are the same
pub record Agree (n : ℕ) (ts us : List Ty) : Type 0 where
  pub at : (j : ℕ) → j < n → get_or ts j bool ≡ get_or us j bool

module _ (n : ℕ) (ts us : List Ty) (a : Agree n ts us) where
  pub ids_kept : (is : List TypeId) → IdsBelow n is → trees_of ts is ≡ trees_of us is
  ids_kept [] b = refl
  ids_kept (i ∷ is) b = let e = a.at i.0 b.0 in let r = ids_kept is b.1 in cc (e, r)

  fields_kept : (fs : List FieldRow) → FieldsBelow n fs → fields_of ts fs ≡ fields_of us fs
  fields_kept [] b = refl
  fields_kept (f ∷ fs) b = let e = a.at f.ty.0 b.0 in let r = fields_kept fs b.1 in cc (e, r)

  specs_kept : (ms : List MethodSpec) → SpecsBelow n ms → specs_of ts ms ≡ specs_of us ms
  specs_kept [] b = refl
  specs_kept (m ∷ ms) b =
      let e = ids_kept m.sig.params b.0.0 in
      let f = ids_kept m.sig.results b.0.1 in
      let r = specs_kept ms b.1 in cc (e, f, r)

  pub level_kept : (m : ℕ) (g : GoType) → Below n m g → level ts g ≡ level us g
  level_kept m go.Bool b = refl
  level_kept m go.Str b = refl
  level_kept m (go.Int name) b = refl
  level_kept m go.Nil b = refl
  level_kept m (go.Untyped basis) b = refl
  level_kept m (go.Array k t) b = ap (tree.array k) (a.at t.0 b)
  level_kept m (go.Slice t) b = ap tree.slice (a.at t.0 b)
  level_kept m (go.Struct fs) b = ap tree.struct (fields_kept fs b.0)
  level_kept m (go.Pointer t) b = ap tree.pointer (a.at t.0 b)
  level_kept m (go.Func s) b = let e = ids_kept s.params b.0 in let f = ids_kept s.results b.1 in cc (e, f)
  level_kept m (go.Interface ms) b = ap tree.interface (specs_kept ms b)
  level_kept m (go.Map k v) b = let e = a.at k.0 b.0 in let f = a.at v.0 b.1 in cc (e, f)
  level_kept m (go.Chan d t) b = ap (tree.chan d) (a.at t.0 b)
  level_kept m (go.Named i) b = refl
  level_kept m (go.Tuple is) b = ap tree.tuple (ids_kept is b)

pub get_front : (xs ys : List Ty) (k : ℕ) → k < length xs → get_or (xs ++ ys) k bool ≡ get_or xs k bool
get_front xs ys k l = grind (arith, common_steps)

pub get_last : (xs : List Ty) (y : Ty) → get_or (xs ++ y ∷ []) (length xs) bool ≡ y
get_last [] y = refl
get_last (x ∷ xs) y = get_last xs y

front_kept : (ts : List Ty) (gs : List GoType) (j : ℕ) → j < length ts → get_or (trees_after ts gs) j bool ≡ get_or ts j bool
front_kept ts [] j h = refl
front_kept ts (g ∷ gs) j h =
    front_kept (ts ++ level ts g ∷ []) gs j (omega (arith, length-append ts (level ts g ∷ []))) ∙ get_front ts (level ts g ∷ []) j h

length_after : (ts : List Ty) (gs : List GoType) → length (trees_after ts gs) ≡ length ts + length gs
length_after ts [] = sym (add-zero (length ts))
length_after ts (g ∷ gs) = length_after (ts ++ level ts g ∷ []) gs ∙ omega (arith, length-append ts (level ts g ∷ []))

pub length_trees : (gs : List GoType) → length (trees gs) ≡ length gs
unfolding trees
length_trees gs = length_after [] gs ∙ omega arith

after_both : (ts : List Ty) (gs hs : List GoType) → trees_after ts (gs ++ hs) ≡ trees_after (trees_after ts gs) hs
after_both ts [] hs = refl
after_both ts (g ∷ gs) hs = after_both (ts ++ level ts g ∷ []) gs hs

-- one more level adds its tree at the end
pub one_more : (gs : List GoType) (g : GoType) → trees (gs ++ g ∷ []) ≡ trees gs ++ level (trees gs) g ∷ []
unfolding trees
one_more gs g = after_both [] gs (g ∷ [])

level_at : (ts : List Ty) (gs : List GoType) (i n m : ℕ) (g : GoType) → n ≡ length ts + i → slice_get gs i ≡ Some g → Below n m g → get_or (trees_after ts gs) n bool ≡ level (trees_after ts gs) g
level_at ts [] i n m g e h b = cc
level_at ts (x ∷ gs) zero n m g e h b =
    let us = ts ++ level ts x ∷ [] in
    let same : x ≡ g = cc in
    let here : n ≡ length ts = omega arith in
    let kept : get_or (trees_after us gs) n bool ≡ get_or us n bool = front_kept us gs n (omega (arith, length-append ts (level ts x ∷ []))) in
    let last : get_or us n bool ≡ level ts x = subst (λ (k : ℕ). get_or us k bool ≡ level ts x) (sym here) (get_last ts (level ts x)) in
    let agree : Agree n ts (trees_after us gs) = record { at = λ j l. sym (front_kept ts (x ∷ gs) j (omega arith)) } in
    kept ∙ last ∙ ap (level ts) same ∙ level_kept n ts (trees_after us gs) agree m g b
level_at ts (x ∷ gs) (suc i) n m g e h b =
    level_at (ts ++ level ts x ∷ []) gs i n m g (omega (arith, length-append ts (level ts x ∷ []))) h b

-- an id's tree is its level over the trees
pub tree_is : (m : ℕ) (gs : List GoType) (i : ℕ) (g : GoType) → Rises m gs → slice_get gs i ≡ Some g → get_or (trees gs) i bool ≡ level (trees gs) g
unfolding trees
tree_is m gs i g r h = level_at [] gs i i m g (omega arith) h (r i g h)
