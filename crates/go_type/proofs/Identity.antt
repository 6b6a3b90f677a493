-- One id for one tree.
use Rattle.std.proofs.Common.{◌≡◌, ℕ, zero, suc, ◌<◌, true, false, List, [], ◌∷◌, Some, get_or, length, refl, ap, sym, ◌∙◌, subst, arith}
use Rattle.std.specs.Prelude.{IsTrue, ◌↔◌, nat_eq}
use Rattle.std.specs.List.{slice_get, AllByRecursion, IsDistinct}
use Rattle.std.proofs.lemmas.Bool.{eqb-true, eq-eqb}
use Rattle.std.proofs.lemmas.Map.Keys.{IsDistinct-tail, IsDistinct-head}
use Rattle.go_type.specs.Tree.{Ty, bool}
use Rattle.go_type.specs.Levels.{tree_of, trees_of, fields_of, specs_of, level, trees, IdsBelow, FieldsBelow, SigBelow, SpecsBelow, Below, Rises}
use Rattle.go_type.specs.Same.{type_eq}
use Rattle.go_type.specs.SameLaws.{type_decides}
use Rattle.go_type.specs.declared.types.TypeId.{TypeId}
use Rattle.go_type.specs.declared.types.FieldRow.{FieldRow}
use Rattle.go_type.specs.declared.types.Sig.{Sig}
use Rattle.go_type.specs.declared.types.MethodSpec.{MethodSpec}
use Rattle.go_type.specs.declared.types.GoType.{GoType}
use Rattle.go_type.specs.declared.types.GoType.TheVariants as go
use Rattle.go_type.proofs.LevelLemmas.{tree_is}

-- ---- levels over trees that tell ids apart

module _ (ts : List Ty) (i j : ℕ) (one : (p q : ℕ) → p < i → q < j → get_or ts p bool ≡ get_or ts q bool → p ≡ q) where
  id_one : (a b : TypeId) → a.0 < i → b.0 < j → tree_of ts a ≡ tree_of ts b → a ≡ b
  id_one a b l k e = ap (λ (n : ℕ). record { 0 = n }) (one a.0 b.0 l k e)

  ids_one : (as_ bs : List TypeId) → IdsBelow i as_ → IdsBelow j bs → trees_of ts as_ ≡ trees_of ts bs → as_ ≡ bs
  ids_one [] [] l k e = refl
  ids_one [] (b ∷ bs) l k e = cc
  ids_one (a ∷ as_) [] l k e = cc
  ids_one (a ∷ as_) (b ∷ bs) l k e =
      let d : tree_of ts a ≡ tree_of ts b = cc in
      let r : trees_of ts as_ ≡ trees_of ts bs = cc in
      let f : a ≡ b = id_one a b l.0 k.0 d in
      let g : as_ ≡ bs = ids_one as_ bs l.1 k.1 r in cc

  fields_one : (as_ bs : List FieldRow) → FieldsBelow i as_ → FieldsBelow j bs → fields_of ts as_ ≡ fields_of ts bs → as_ ≡ bs
  fields_one [] [] l k e = refl
  fields_one [] (b ∷ bs) l k e = cc
  fields_one (a ∷ as_) [] l k e = cc
  fields_one (a ∷ as_) (b ∷ bs) l k e =
      let e1 : a.name ≡ b.name = cc in
      let e2 : a.package ≡ b.package = cc in
      let d : tree_of ts a.ty ≡ tree_of ts b.ty = cc in
      let e3 : a.ty ≡ b.ty = id_one a.ty b.ty l.0 k.0 d in
      let e4 : a.embedded ≡ b.embedded = cc in
      let e5 : a.tag ≡ b.tag = cc in
      let r : fields_of ts as_ ≡ fields_of ts bs = cc in
      let f : a ≡ b = λ x. record { name = e1 x; «package» = e2 x; ty = e3 x; embedded = e4 x; tag = e5 x } in
      let g : as_ ≡ bs = fields_one as_ bs l.1 k.1 r in cc

  pub sig_one : (a b : Sig) → SigBelow i a → SigBelow j b → trees_of ts a.params ≡ trees_of ts b.params → trees_of ts a.results ≡ trees_of ts b.results → a.variadic ≡ b.variadic → a ≡ b
  sig_one a b l k p r v =
      let e = ids_one a.params b.params l.0 k.0 p in
      let f = ids_one a.results b.results l.1 k.1 r in
      λ x. record { params = e x; results = f x; variadic = v x }

  specs_one : (as_ bs : List MethodSpec) → SpecsBelow i as_ → SpecsBelow j bs → specs_of ts as_ ≡ specs_of ts bs → as_ ≡ bs
  specs_one [] [] l k e = refl
  specs_one [] (b ∷ bs) l k e = cc
  specs_one (a ∷ as_) [] l k e = cc
  specs_one (a ∷ as_) (b ∷ bs) l k e =
      let e1 : a.name ≡ b.name = cc in
      let e2 : a.package ≡ b.package = cc in
      let p : trees_of ts a.sig.params ≡ trees_of ts b.sig.params = cc in
      let q : trees_of ts a.sig.results ≡ trees_of ts b.sig.results = cc in
      let v : a.sig.variadic ≡ b.sig.variadic = cc in
      let e3 : a.sig ≡ b.sig = sig_one a.sig b.sig l.0 k.0 p q v in
      let r : specs_of ts as_ ≡ specs_of ts bs = cc in
      let f : a ≡ b = λ x. record { name = e1 x; «package» = e2 x; sig = e3 x } in
      let g : as_ ≡ bs = specs_one as_ bs l.1 k.1 r in cc

  level_one : (m : ℕ) (g h : GoType) → Below i m g → Below j m h → level ts g ≡ level ts h → g ≡ h
  level_one m go.Bool go.Bool l k e = refl
  level_one m go.Str go.Str l k e = refl
  level_one m (go.Int a) (go.Int b) l k e = let f : a ≡ b = cc in ap go.Int f
  level_one m go.Nil go.Nil l k e = refl
  level_one m (go.Untyped a) (go.Untyped b) l k e = let f : a ≡ b = cc in ap go.Untyped f
  level_one m (go.Array n a) (go.Array o b) l k e =
      let f : n ≡ o = cc in
      let d : tree_of ts a ≡ tree_of ts b = cc in
      let g : a ≡ b = id_one a b l k d in cc (f, g)
  level_one m (go.Slice a) (go.Slice b) l k e = let d : tree_of ts a ≡ tree_of ts b = cc in ap go.Slice (id_one a b l k d)
  level_one m (go.Struct a) (go.Struct b) l k e = let d : fields_of ts a ≡ fields_of ts b = cc in ap go.Struct (fields_one a b l.0 k.0 d)
  level_one m (go.Pointer a) (go.Pointer b) l k e = let d : tree_of ts a ≡ tree_of ts b = cc in ap go.Pointer (id_one a b l k d)
  level_one m (go.Func a) (go.Func b) l k e =
      let p : trees_of ts a.params ≡ trees_of ts b.params = cc in
      let q : trees_of ts a.results ≡ trees_of ts b.results = cc in
      let v : a.variadic ≡ b.variadic = cc in ap go.Func (sig_one a b l k p q v)
  level_one m (go.Interface a) (go.Interface b) l k e = let d : specs_of ts a ≡ specs_of ts b = cc in ap go.Interface (specs_one a b l k d)
  level_one m (go.Map a b) (go.Map c d) l k e =
      let p : tree_of ts a ≡ tree_of ts c = cc in
      let q : tree_of ts b ≡ tree_of ts d = cc in
      let f : a ≡ c = id_one a c l.0 k.0 p in
      let g : b ≡ d = id_one b d l.1 k.1 q in cc (f, g)
  level_one m (go.Chan d a) (go.Chan c b) l k e =
      let f : d ≡ c = cc in
      let p : tree_of ts a ≡ tree_of ts b = cc in
      let g : a ≡ b = id_one a b l k p in cc (f, g)
  level_one m (go.Named a) (go.Named b) l k e = let f : a.0 ≡ b.0 = cc in ap (λ (n : ℕ). go.Named (record { 0 = n })) f
  level_one m (go.Tuple a) (go.Tuple b) l k e = let d : trees_of ts a ≡ trees_of ts b = cc in ap go.Tuple (ids_one a b l k d)
  level_one m _ _ l k e = cc

-- ---- each level stands once

not_in : (g : GoType) (gs : List GoType) (j : ℕ) → AllByRecursion (λ y. type_eq g y ≡ false) gs → slice_get gs j ≡ Some g → ⊥
not_in g [] j a h = cc
not_in g (x ∷ gs) zero a h =
    let e : x ≡ g = cc in
    let f : type_eq g x ≡ true = (type_decides g x).1 (sym e) in
    let k : type_eq g x ≡ false = a.0 in cc
not_in g (x ∷ gs) (suc j) a h = not_in g gs j a.1 h

pub once : (gs : List GoType) (i j : ℕ) (g : GoType) → IsDistinct type_eq gs → slice_get gs i ≡ Some g → slice_get gs j ≡ Some g → i ≡ j
once [] i j g d h k = cc
once (x ∷ gs) zero zero g d h k = refl
once (x ∷ gs) zero (suc j) g d h k =
    let e : x ≡ g = cc in
    absurd (not_in g gs j (subst (λ (y : GoType). AllByRecursion (λ z. type_eq y z ≡ false) gs) e (IsDistinct-head type_eq x gs d)) k)
once (x ∷ gs) (suc i) zero g d h k =
    let e : x ≡ g = cc in
    absurd (not_in g gs i (subst (λ (y : GoType). AllByRecursion (λ z. type_eq y z ≡ false) gs) e (IsDistinct-head type_eq x gs d)) h)
once (x ∷ gs) (suc i) (suc j) g d h k = ap suc (once gs i j g (IsDistinct-tail type_eq x gs d) h k)

level_of : (gs : List GoType) (i : ℕ) → i < length gs → (g : GoType) × (slice_get gs i ≡ Some g)
level_of [] i l = absurd (omega arith)
level_of (x ∷ gs) zero l = (x, refl)
level_of (x ∷ gs) (suc i) l = level_of gs i (omega arith)

module _ (m : ℕ) (gs : List GoType) (r : Rises m gs) (d : IsDistinct type_eq gs) where
  apart : (n i j : ℕ) → i < n → i < length gs → j < length gs → get_or (trees gs) i bool ≡ get_or (trees gs) j bool → i ≡ j
  apart zero i j b l k e = absurd (omega arith)
  apart (suc n) i j b l k e =
      let x = level_of gs i l in
      let y = level_of gs j k in
      let f : level (trees gs) x.0 ≡ level (trees gs) y.0 = sym (tree_is m gs i x.0 r x.1) ∙ e ∙ tree_is m gs j y.0 r y.1 in
      let g : x.0 ≡ y.0 = level_one (trees gs) i j (λ p q pl ql h. apart n p q (omega arith) (omega arith) (omega arith) h) m x.0 y.0 (r i x.0 x.1) (r j y.0 y.1) f in
      once gs i j y.0 d (x.1 ∙ ap Some g) y.1

  -- two ids stand for one tree only where they are one
  pub one_id : (i j : ℕ) → i < length gs → j < length gs → get_or (trees gs) i bool ≡ get_or (trees gs) j bool → i ≡ j
  one_id i j l k e = apart (suc i) i j (omega arith) l k e

  pub identity : (a b : TypeId) → a.0 < length gs → b.0 < length gs → IsTrue (nat_eq a.0 b.0) ↔ (tree_of (trees gs) a ≡ tree_of (trees gs) b)
  identity a b l k = (λ h. ap (λ (n : ℕ). get_or (trees gs) n bool) (eqb-true a.0 b.0 h), λ e. eq-eqb a.0 b.0 (one_id a.0 b.0 l k e))

-- signatures of the table with one tree are one
pub same_sig : (m : ℕ) (gs : List GoType) → Rises m gs → IsDistinct type_eq gs → (a b : Sig) → SigBelow (length gs) a → SigBelow (length gs) b
    → trees_of (trees gs) a.params ≡ trees_of (trees gs) b.params → trees_of (trees gs) a.results ≡ trees_of (trees gs) b.results → a.variadic ≡ b.variadic → a ≡ b
same_sig m gs r d a b l k = sig_one (trees gs) (length gs) (length gs) (λ p q pl ql e. one_id m gs r d p q pl ql e) a b l k
