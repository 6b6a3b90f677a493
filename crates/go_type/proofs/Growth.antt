-- One more level, and one more name.
use Rattle.std.proofs.Common.{◌≡◌, ◌⊎◌, inl, inr, ℕ, zero, suc, ◌<◌, ◌≤◌, Bool, true, false, List, [], ◌∷◌, ◌++◌, Option, Some, None, Result, Ok, Err, get_or, length, length-append, map, refl, ap, sym, ◌∙◌, subst, arith}
use Rattle.std.specs.Prelude.{IfOk, OnErr, if◌then◌else◌}
use Rattle.std.specs.List.{slice_get, AllByRecursion, list_any}
use Rattle.indexmap.specs.IndexSet.{insert_key}
use Rattle.go_type.specs.Tree.{Ty, bool}
use Rattle.go_type.specs.Same.{type_eq}
use Rattle.go_type.specs.SameLaws.{type_decides}
use Rattle.go_type.specs.Levels.{level, trees, IdsBelow, SigBelow, Below, Rises}
use Rattle.go_type.specs.Named.{UnderBelow, MethodsBelow, NamesBelow, named_of, under_of, method_of}
use Rattle.go_type.specs.Table.{IsAdded}
use Rattle.go_type.specs.declared.types.TypeId.{TypeId}
use Rattle.go_type.specs.declared.types.FieldRow.{FieldRow}
use Rattle.go_type.specs.declared.types.MethodSpec.{MethodSpec}
use Rattle.go_type.specs.declared.types.Method.{Method}
use Rattle.go_type.specs.declared.types.Sig.{Sig}
use Rattle.go_type.specs.declared.types.NamedType.{NamedType}
use Rattle.go_type.specs.declared.types.GoType.{GoType}
use Rattle.go_type.specs.declared.types.GoType.TheVariants as go
use Rattle.go_type.proofs.LevelLemmas.{Agree, ids_kept, level_kept, one_more, length_trees, get_front, tree_is}

-- nothing more, or one more level at the end
abbrev pub GrownBy : List GoType → List GoType → GoType → Type 0
GrownBy gs hs g = (hs ≡ gs) ⊎ (hs ≡ gs ++ g ∷ [])

by_test : (b : Bool) (gs : List GoType) (g : GoType) → GrownBy gs (if b then gs else gs ++ g ∷ []) g
by_test true gs g = inl refl
by_test false gs g = inr refl

module _ {X E : Type 0} (gs hs : List GoType) (g : GoType) where
  pub grown : (r : Result X E) → IfOk r (λ x. hs ≡ insert_key type_eq gs g) → OnErr r (hs ≡ gs) → GrownBy gs hs g
  grown (Ok x) h k = subst (λ (xs : List GoType). GrownBy gs xs g) (sym h) (by_test (list_any (type_eq g) gs) gs g)
  grown (Err e) h k = inl k

last_or : (gs : List GoType) (x g : GoType) (i : ℕ) → slice_get (gs ++ x ∷ []) i ≡ Some g → (slice_get gs i ≡ Some g) ⊎ ((i ≡ length gs) × (x ≡ g))
last_or [] x g zero h = let e : x ≡ g = cc in inr (refl, e)
last_or [] x g (suc i) h = let e : None ≡ Some g = h in cc
last_or (y ∷ gs) x g zero h = inl h
last_or (y ∷ gs) x g (suc i) h = elim (last_or gs x g i h) [ inl e ↦ inl e | inr e ↦ inr (ap suc e.0, e.1) ]

module _ (m : ℕ) (gs : List GoType) (g : GoType) (r : Rises m gs) (b : Below (length gs) m g) where
  rises_more : Rises m (gs ++ g ∷ [])
  rises_more i h e =
      elim (last_or gs g h i e) [ inl f ↦ r i h f | inr f ↦ subst (λ (j : ℕ). Below j m h) (sym f.0) (subst (λ (k : GoType). Below (length gs) m k) f.1 b) ]

  pub rises_grown : (hs : List GoType) → GrownBy gs hs g → Rises m hs
  rises_grown hs (inl e) = subst (Rises m) (sym e) r
  rises_grown hs (inr e) = subst (Rises m) (sym e) rises_more

agree_more : (gs : List GoType) (g : GoType) → Agree (length gs) (trees gs) (trees (gs ++ g ∷ []))
agree_more gs g = record { at = λ j h. sym (ap (λ (ts : List Ty). get_or ts j bool) (one_more gs g) ∙ get_front (trees gs) (level (trees gs) g ∷ []) j (omega (arith, length_trees gs))) }

pub agree_grown : (gs hs : List GoType) (g : GoType) → GrownBy gs hs g → Agree (length gs) (trees gs) (trees hs)
agree_grown gs hs g (inl e) = subst (λ (xs : List GoType). Agree (length gs) (trees gs) (trees xs)) (sym e) (record { at = λ j h. refl })
agree_grown gs hs g (inr e) = subst (λ (xs : List GoType). Agree (length gs) (trees gs) (trees xs)) (sym e) (agree_more gs g)

pub longer : (gs hs : List GoType) (g : GoType) → GrownBy gs hs g → length gs ≤ length hs
longer gs hs g (inl e) = omega (arith, ap length e)
longer gs hs g (inr e) = omega (arith, ap length e, length-append gs (g ∷ []))

pub added : (gs hs : List GoType) (g : GoType) → GrownBy gs hs g → IsAdded (trees gs) (level (trees gs) g) (trees hs)
added gs hs g (inl e) = inl (ap trees e)
added gs hs g (inr e) = inr (ap trees e ∙ one_more gs g)

-- the tree of the place where the level stands
pub tree_stored : (m : ℕ) (gs hs : List GoType) (g : GoType) (i : ℕ) → Rises m gs → Below (length gs) m g → GrownBy gs hs g → (k : GoType) → slice_get hs i ≡ Some k → type_eq g k ≡ true
    → get_or (trees hs) i bool ≡ level (trees gs) g
tree_stored m gs hs g i r b grew k at same =
    let e : g ≡ k = (type_decides g k).0 same in
    tree_is m hs i k (rises_grown m gs g r b hs grew) at ∙ ap (level (trees hs)) (sym e) ∙ sym (level_kept (length gs) (trees gs) (trees hs) (agree_grown gs hs g grew) m g b)

-- ---- names over more levels

ids_more : (n o : ℕ) → n ≤ o → (is : List TypeId) → IdsBelow n is → IdsBelow o is
ids_more n o h [] b = tt
ids_more n o h (i ∷ is) b = (omega (arith, b.0), ids_more n o h is b.1)

under_more : (n o : ℕ) → n ≤ o → (u : Option TypeId) → UnderBelow n u → UnderBelow o u
under_more n o h None b = tt
under_more n o h (Some t) b = omega arith

methods_more : (n o : ℕ) → n ≤ o → (ms : List Method) → MethodsBelow n ms → MethodsBelow o ms
methods_more n o h [] b = tt
methods_more n o h (x ∷ ms) b = ((ids_more n o h x.sig.params b.0.0, ids_more n o h x.sig.results b.0.1), methods_more n o h ms b.1)

pub names_more : (n o : ℕ) → n ≤ o → (xs : List NamedType) → NamesBelow n xs → NamesBelow o xs
names_more n o h [] b = tt
names_more n o h (x ∷ xs) b = ((under_more n o h x.under b.0.0, methods_more n o h x.methods b.0.1), names_more n o h xs b.1)

module _ (n : ℕ) (ts us : List Ty) (a : Agree n ts us) where
  under_kept : (u : Option TypeId) → UnderBelow n u → under_of us u ≡ under_of ts u
  under_kept None b = refl
  under_kept (Some t) b = ap Some (sym (a.at t.0 b))

  methods_kept : (ms : List Method) → MethodsBelow n ms → map (method_of us) ms ≡ map (method_of ts) ms
  methods_kept [] b = refl
  methods_kept (x ∷ ms) b =
      let e = sym (ids_kept n ts us a x.sig.params b.0.0) in
      let f = sym (ids_kept n ts us a x.sig.results b.0.1) in
      let g : method_of us x ≡ method_of ts x = λ i. record { name = x.name; pointer = x.pointer; params = e i; results = f i; variadic = x.sig.variadic } in
      let r = methods_kept ms b.1 in cc (g, r)

  pub names_kept : (xs : List NamedType) → NamesBelow n xs → map (named_of us) xs ≡ map (named_of ts) xs
  names_kept [] b = refl
  names_kept (x ∷ xs) b =
      let e = under_kept x.under b.0.0 in
      let f = methods_kept x.methods b.0.1 in
      let g : named_of us x ≡ named_of ts x = λ i. record { name = x.name; package_ = x.package; under = e i; methods = f i } in
      let r = names_kept xs b.1 in cc (g, r)

-- ---- parts among more levels

module _ {X : Type 0} (P Q : X → Type 0) (all : (x : X) → P x → Q x) where
  each_more : (xs : List X) → AllByRecursion P xs → AllByRecursion Q xs
  each_more [] a = tt
  each_more (x ∷ xs) a = (all x a.0, each_more xs a.1)

sig_more : (n o : ℕ) → n ≤ o → (s : Sig) → SigBelow n s → SigBelow o s
sig_more n o h s b = (ids_more n o h s.params b.0, ids_more n o h s.results b.1)

pub below_wider : (n o m : ℕ) → n ≤ o → (g : GoType) → Below n m g → Below o m g
below_wider n o m h go.Bool b = tt
below_wider n o m h go.Str b = tt
below_wider n o m h (go.Int a) b = tt
below_wider n o m h go.Nil b = tt
below_wider n o m h (go.Untyped a) b = tt
below_wider n o m h (go.Array k t) b = omega arith
below_wider n o m h (go.Slice t) b = omega arith
below_wider n o m h (go.Struct fs) b = (each_more (λ (f : FieldRow). f.ty.0 < n) (λ (f : FieldRow). f.ty.0 < o) (λ f l. omega arith) fs b.0, b.1)
below_wider n o m h (go.Pointer t) b = omega arith
below_wider n o m h (go.Func s) b = sig_more n o h s b
below_wider n o m h (go.Interface ms) b = each_more (λ (x : MethodSpec). SigBelow n x.sig) (λ (x : MethodSpec). SigBelow o x.sig) (λ x l. sig_more n o h x.sig l) ms b
below_wider n o m h (go.Map k v) b = let b0 : k.0 < n = b.0 in let b1 : v.0 < n = b.1 in (omega arith, omega arith)
below_wider n o m h (go.Chan d t) b = omega arith
below_wider n o m h (go.Named i) b = b
below_wider n o m h (go.Tuple is) b = ids_more n o h is b
