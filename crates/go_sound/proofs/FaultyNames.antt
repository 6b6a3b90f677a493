-- Exactly the faults of names are told.
use Rattle.std.proofs.Common.{◌≡◌, ◌⊎◌, inl, inr, ℕ, List, [], ◌∷◌, ◌++◌, append_assoc, append-nil, refl, sym, subst, ap, ◌∙◌, Bool, true, false, Option, Some, None, if◌then◌else◌, bytes_eq}
use Rattle.gj_base.specs.declared.place.Place.{Place}
use Rattle.go_syntax.specs.declared.tree.Name.{Name}
use Rattle.go_core.proofs.SameTypeLemmas.{bytes_one}
use Rattle.go_typing.specs.Env.{unknown, Bind, is_blank}
use Rattle.go_typing.specs.Answer.{Flaw, flaw}
use Rattle.go_typing.specs.Faulty.{IsIn}
use Rattle.go_typing.specs.Scopes.{place_in}
use Rattle.go_typing.specs.Walk.{bind_of, redeclared}
use Rattle.go_typing.specs.Items.{Item, constant_item, type_item, alias_item, function_item, variable_item, init_item, name_of, is_init}
use Rattle.go_typing.specs.Known.{bound_at, with_item}
use Rattle.go_typing.specs.Told.{init_told, names_told}
use Rattle.go_sound.specs.FaultyNames.{Declares, IsDeclared, HasNameFault, HasItemFault, NamesToldExactly}
use Rattle.go_sound.proofs.Circles.{bytes_same}
use Rattle.go_sound.proofs.Exactly.{in_left, in_right, in_either}

-- ---- names of a scope, and those that are declared

-- the name is in the scope where one of these declares it, and else it isn't
abbrev AtName : List Bind → List Item → List ℕ → Type 0
AtName seen before x = (place_in x seen ≡ None) × (IsDeclared before x → ⊥) ⊎ (p : Place) × (place_in x seen ≡ Some p) × IsDeclared before x

abbrev AreSeen : List Bind → List Item → Type 0
AreSeen seen before = (x : List ℕ) → AtName seen before x

place_kept : (x : List ℕ) (bs : List Bind) (b : Bind) (p : Place) → place_in x bs ≡ Some p → place_in x (bs ++ b ∷ []) ≡ Some p
place_kept x [] b p h = let e : None ≡ Some p = h in cc
place_kept x (c ∷ bs) b p h = by_test (λ e. place_kept x bs b p e) (bytes_eq c.name x) h
  where
    by_test : (place_in x bs ≡ Some p → place_in x (bs ++ b ∷ []) ≡ Some p) → (u : Bool) → (if u then Some c.place else place_in x bs) ≡ Some p → (if u then Some c.place else place_in x (bs ++ b ∷ [])) ≡ Some p
    by_test f true e = e
    by_test f false e = f e

place_last : (x : List ℕ) (bs : List Bind) (b : Bind) → place_in x bs ≡ None → bytes_eq b.name x ≡ true → place_in x (bs ++ b ∷ []) ≡ Some b.place
place_last x [] b h e = ap (λ (u : Bool). if u then Some b.place else None) e
place_last x (c ∷ bs) b h e = by_test (λ g. place_last x bs b g e) (bytes_eq c.name x) h
  where
    by_test : (place_in x bs ≡ None → place_in x (bs ++ b ∷ []) ≡ Some b.place) → (u : Bool) → (if u then Some c.place else place_in x bs) ≡ None → (if u then Some c.place else place_in x (bs ++ b ∷ [])) ≡ Some b.place
    by_test f true g = cc
    by_test f false g = f g

place_other : (x : List ℕ) (bs : List Bind) (b : Bind) → bytes_eq b.name x ≡ false → place_in x (bs ++ b ∷ []) ≡ place_in x bs
place_other x [] b e = ap (λ (u : Bool). if u then Some b.place else None) e
place_other x (c ∷ bs) b e = ap (λ (o : Option Place). if bytes_eq c.name x then Some c.place else o) (place_other x bs b e)

declared_first : (is js : List Item) (x : List ℕ) → IsDeclared is x → IsDeclared (is ++ js) x
declared_first [] js x h = absurd h
declared_first (i ∷ is) js x (inl h) = inl h
declared_first (i ∷ is) js x (inr h) = inr (declared_first is js x h)

declared_last : (is : List Item) (i : Item) (x : List ℕ) → Declares i x → IsDeclared (is ++ i ∷ []) x
declared_last [] i x h = inl h
declared_last (j ∷ is) i x h = inr (declared_last is i x h)

declared_either : (is : List Item) (i : Item) (x : List ℕ) → IsDeclared (is ++ i ∷ []) x → IsDeclared is x ⊎ Declares i x
declared_either [] i x (inl h) = inr h
declared_either [] i x (inr h) = absurd h
declared_either (j ∷ is) i x (inl h) = inl (inl h)
declared_either (j ∷ is) i x (inr h) = by_case (declared_either is i x h)
  where
    by_case : IsDeclared is x ⊎ Declares i x → IsDeclared (j ∷ is) x ⊎ Declares i x
    by_case (inl a) = inl (inr a)
    by_case (inr b) = inr b

-- after one more declaration
module _ (seen : List Bind) (before : List Item) (s : AreSeen seen before) (i : Item) where
  seen_init : ((x : List ℕ) → Declares i x → ⊥) → AreSeen seen (before ++ i ∷ [])
  seen_init none x = by_case (s x)
    where
      not_now : (IsDeclared before x → ⊥) → IsDeclared before x ⊎ Declares i x → ⊥
      not_now unsaid (inl h) = unsaid h
      not_now unsaid (inr h) = none x h

      by_case : AtName seen before x → AtName seen (before ++ i ∷ []) x
      by_case (inl h) = inl (h.0, λ d. not_now h.1 (declared_either before i x d))
      by_case (inr h) = inr (h.0, h.1, declared_first before (i ∷ []) x h.2)

  seen_next : (n : Name) → ((x : List ℕ) → (n.text ≡ x) × (is_blank x ≡ false) → Declares i x) → ((x : List ℕ) → Declares i x → (n.text ≡ x) × (is_blank x ≡ false)) → AreSeen (with_item n unknown seen) (before ++ i ∷ [])
  seen_next n here there x = by_case (s x)
    where
      kept : (p : Place) → place_in x seen ≡ Some p → (c : Bool) (o : Option Place) → place_in x (if c then seen else bound_at (bind_of n unknown) o seen) ≡ Some p
      kept p h true o = h
      kept p h false (Some at) = h
      kept p h false None = place_kept x seen (bind_of n unknown) p h

      other : place_in x seen ≡ None → bytes_eq n.text x ≡ false → (c : Bool) (o : Option Place) → place_in x (if c then seen else bound_at (bind_of n unknown) o seen) ≡ None
      other h e true o = h
      other h e false (Some at) = h
      other h e false None = place_other x seen (bind_of n unknown) e ∙ h

      added : place_in x seen ≡ None → bytes_eq n.text x ≡ true → (c : Bool) → c ≡ false → (o : Option Place) → o ≡ None → place_in x (if c then seen else bound_at (bind_of n unknown) o seen) ≡ Some n.place
      added h e true g o k = let m : true ≡ false = g in cc
      added h e false g (Some at) k = let m : Some at ≡ None = k in cc
      added h e false g None k = place_last x seen (bind_of n unknown) h e

      not_now : (IsDeclared before x → ⊥) → (Declares i x → ⊥) → IsDeclared before x ⊎ Declares i x → ⊥
      not_now unsaid never (inl h) = unsaid h
      not_now unsaid never (inr h) = never h

      not_same : bytes_eq n.text x ≡ false → Declares i x → ⊥
      not_same e d = let g : true ≡ false = sym (bytes_same n.text) ∙ ap (bytes_eq n.text) (let t = there x d in t.0) ∙ e in cc

      not_blank : is_blank x ≡ true → Declares i x → ⊥
      not_blank e d = let t = there x d in let g : true ≡ false = sym e ∙ t.1 in cc

      -- a name that wasn't there
      by_name : (place_in x seen ≡ None) × (IsDeclared before x → ⊥) → (e : Bool) → bytes_eq n.text x ≡ e → (c : Bool) → is_blank x ≡ c → AtName (with_item n unknown seen) (before ++ i ∷ []) x
      by_name h false e c g = inl (other h.0 e (is_blank n.text) (place_in n.text seen), λ d. not_now h.1 (not_same e) (declared_either before i x d))
      by_name h true e true g =
          let t = bytes_one n.text x e in
          inl (subst (λ (u : Bool). place_in x (if u then seen else bound_at (bind_of n unknown) (place_in n.text seen) seen) ≡ None) (sym (ap is_blank t ∙ g)) h.0, λ d. not_now h.1 (not_blank g) (declared_either before i x d))
      by_name h true e false g =
          let t = bytes_one n.text x e in
          inr (n.place, added h.0 e (is_blank n.text) (ap is_blank t ∙ g) (place_in n.text seen) (ap (λ (y : List ℕ). place_in y seen) t ∙ h.0), declared_last before i x (here x (t, g)))

      by_case : AtName seen before x → AtName (with_item n unknown seen) (before ++ i ∷ []) x
      by_case (inl h) = by_name h (bytes_eq n.text x) refl (is_blank x) refl
      by_case (inr h) = inr (h.0, kept h.0 h.1 (is_blank n.text) (place_in n.text seen), declared_first before (i ∷ []) x h.2)

-- ---- what is told of one declaration

module _ (seen : List Bind) (before : List Item) (s : AreSeen seen before) (n : Name) (f : Flaw) where
  abbrev again : List Flaw
  again = if is_blank n.text then [] else redeclared n (place_in n.text seen)

  declared_known : IsDeclared before n.text → is_blank n.text ≡ false
  declared_known h = by_items before h
    where
      by_item : (i : Item) → Declares i n.text → is_blank n.text ≡ false
      by_item (init_item m) d = absurd d
      by_item (constant_item m j u y all) d = d.1
      by_item (type_item m j e) d = d.1
      by_item (alias_item m e) d = d.1
      by_item (function_item m id g) d = d.1
      by_item (variable_item m) d = d.1

      by_items : (is : List Item) → IsDeclared is n.text → is_blank n.text ≡ false
      by_items [] d = absurd d
      by_items (i ∷ is) (inl d) = by_item i d
      by_items (i ∷ is) (inr d) = by_items is d

  again_faulty : IsIn f again → HasNameFault before n f
  again_faulty h = by_test (is_blank n.text) h
    where
      by_place : AtName seen before n.text → IsIn f (redeclared n (place_in n.text seen)) → HasNameFault before n f
      by_place (inl k) g = absurd (subst (λ (o : Option Place). IsIn f (redeclared n o)) k.0 g)
      by_place (inr k) g = told (subst (λ (o : Option Place). IsIn f (redeclared n o)) k.1 g)
        where
          told : IsIn f (redeclared n (Some k.0)) → HasNameFault before n f
          told (inl e) = inl (k.2, sym e)
          told (inr e) = absurd e

      by_test : (c : Bool) → IsIn f (if c then [] else redeclared n (place_in n.text seen)) → HasNameFault before n f
      by_test true g = absurd g
      by_test false g = by_place (s n.text) g

  init_faulty : IsIn f (init_told n) → HasNameFault before n f
  init_faulty h = by_test (is_init n) refl h
    where
      by_test : (c : Bool) → is_init n ≡ c → IsIn f (if c then flaw n.place 99 ∷ [] else []) → HasNameFault before n f
      by_test true e (inl g) = inr (e, sym g)
      by_test true e (inr g) = absurd g
      by_test false e g = absurd g

  one_faulty : (rest : List Flaw) → IsIn f (again ++ init_told n ++ rest) → HasNameFault before n f ⊎ IsIn f rest
  one_faulty rest h = by_outer (in_either f (again ++ init_told n) rest h)
    where
      by_inner : IsIn f again ⊎ IsIn f (init_told n) → HasNameFault before n f
      by_inner (inl g) = again_faulty g
      by_inner (inr g) = init_faulty g

      by_outer : IsIn f (again ++ init_told n) ⊎ IsIn f rest → HasNameFault before n f ⊎ IsIn f rest
      by_outer (inl g) = inl (by_inner (in_either f again (init_told n) g))
      by_outer (inr g) = inr g

  one_told : (rest : List Flaw) → HasNameFault before n f → IsIn f (again ++ init_told n ++ rest)
  one_told rest (inl h) = in_left f (again ++ init_told n) rest (in_left f again (init_told n) (by_place (s n.text)))
    where
      by_place : AtName seen before n.text → IsIn f again
      by_place (inl k) = absurd (k.1 h.0)
      by_place (inr k) =
          subst (λ (c : Bool). IsIn f (if c then [] else redeclared n (place_in n.text seen))) (sym (declared_known h.0)) (subst (λ (o : Option Place). IsIn f (redeclared n o)) (sym k.1) (inl (sym h.1)))
  one_told rest (inr h) = in_left f (again ++ init_told n) rest (in_right f again (init_told n) (subst (λ (c : Bool). IsIn f (if c then flaw n.place 99 ∷ [] else [])) (sym h.0) (inl (sym h.1))))

-- ---- one after the other

abbrev Later : List Item → List Item → Flaw → Type 0
Later before [] f = ⊥
Later before (i ∷ is) f = HasItemFault before i f ⊎ Later (before ++ i ∷ []) is f

next : (seen : List Bind) (before : List Item) → AreSeen seen before → (i : Item) → ((x : List ℕ) → (((name_of i).text ≡ x) × (is_blank x ≡ false)) → Declares i x) → ((x : List ℕ) → Declares i x → ((name_of i).text ≡ x) × (is_blank x ≡ false)) → AreSeen (with_item (name_of i) unknown seen) (before ++ i ∷ [])
next seen before s i here there = seen_next seen before s i (name_of i) here there

later_in : (f : Flaw) (A B C : Type 0) → (C → B) → A ⊎ C → A ⊎ B
later_in f A B C g (inl a) = inl a
later_in f A B C g (inr c) = inr (g c)

faulty : (seen : List Bind) (before : List Item) → AreSeen seen before → (is : List Item) (f : Flaw) → IsIn f (names_told seen is) → Later before is f
faulty seen before s [] f h = absurd h
faulty seen before s (init_item n ∷ is) f h = inr (faulty seen (before ++ init_item n ∷ []) (seen_init seen before s (init_item n) (λ x d. d)) is f h)
faulty seen before s (constant_item n j u y all ∷ is) f h =
    later_in f _ _ _ (λ g. faulty (with_item n unknown seen) (before ++ constant_item n j u y all ∷ []) (next seen before s (constant_item n j u y all) (λ x d. d) (λ x d. d)) is f g) (one_faulty seen before s n f (names_told (with_item n unknown seen) is) h)
faulty seen before s (type_item n j e ∷ is) f h =
    later_in f _ _ _ (λ g. faulty (with_item n unknown seen) (before ++ type_item n j e ∷ []) (next seen before s (type_item n j e) (λ x d. d) (λ x d. d)) is f g) (one_faulty seen before s n f (names_told (with_item n unknown seen) is) h)
faulty seen before s (alias_item n e ∷ is) f h =
    later_in f _ _ _ (λ g. faulty (with_item n unknown seen) (before ++ alias_item n e ∷ []) (next seen before s (alias_item n e) (λ x d. d) (λ x d. d)) is f g) (one_faulty seen before s n f (names_told (with_item n unknown seen) is) h)
faulty seen before s (function_item n id g ∷ is) f h =
    later_in f _ _ _ (λ k. faulty (with_item n unknown seen) (before ++ function_item n id g ∷ []) (next seen before s (function_item n id g) (λ x d. d) (λ x d. d)) is f k) (one_faulty seen before s n f (names_told (with_item n unknown seen) is) h)
faulty seen before s (variable_item n ∷ is) f h =
    later_in f _ _ _ (λ g. faulty (with_item n unknown seen) (before ++ variable_item n ∷ []) (next seen before s (variable_item n) (λ x d. d) (λ x d. d)) is f g) (one_faulty seen before s n f (names_told (with_item n unknown seen) is) h)

either_told : (seen : List Bind) (before : List Item) → AreSeen seen before → (n : Name) (f : Flaw) (rest : List Flaw) → HasNameFault before n f ⊎ IsIn f rest
    → IsIn f ((if is_blank n.text then [] else redeclared n (place_in n.text seen)) ++ init_told n ++ rest)
either_told seen before s n f rest (inl h) = one_told seen before s n f rest h
either_told seen before s n f rest (inr h) = in_right f ((if is_blank n.text then [] else redeclared n (place_in n.text seen)) ++ init_told n) rest h

told_of : (seen : List Bind) (before : List Item) → AreSeen seen before → (is : List Item) (f : Flaw) → Later before is f → IsIn f (names_told seen is)
told_of seen before s [] f h = absurd h
told_of seen before s (init_item n ∷ is) f (inl h) = absurd h
told_of seen before s (init_item n ∷ is) f (inr h) = told_of seen (before ++ init_item n ∷ []) (seen_init seen before s (init_item n) (λ x d. d)) is f h
told_of seen before s (constant_item n j u y all ∷ is) f h =
    either_told seen before s n f (names_told (with_item n unknown seen) is)
    (later_in f _ _ _ (λ g. told_of (with_item n unknown seen) (before ++ constant_item n j u y all ∷ []) (next seen before s (constant_item n j u y all) (λ x d. d) (λ x d. d)) is f g) h)
told_of seen before s (type_item n j e ∷ is) f h =
    either_told seen before s n f (names_told (with_item n unknown seen) is)
    (later_in f _ _ _ (λ g. told_of (with_item n unknown seen) (before ++ type_item n j e ∷ []) (next seen before s (type_item n j e) (λ x d. d) (λ x d. d)) is f g) h)
told_of seen before s (alias_item n e ∷ is) f h =
    either_told seen before s n f (names_told (with_item n unknown seen) is)
    (later_in f _ _ _ (λ g. told_of (with_item n unknown seen) (before ++ alias_item n e ∷ []) (next seen before s (alias_item n e) (λ x d. d) (λ x d. d)) is f g) h)
told_of seen before s (function_item n id g ∷ is) f h =
    either_told seen before s n f (names_told (with_item n unknown seen) is)
    (later_in f _ _ _ (λ k. told_of (with_item n unknown seen) (before ++ function_item n id g ∷ []) (next seen before s (function_item n id g) (λ x d. d) (λ x d. d)) is f k) h)
told_of seen before s (variable_item n ∷ is) f h =
    either_told seen before s n f (names_told (with_item n unknown seen) is)
    (later_in f _ _ _ (λ g. told_of (with_item n unknown seen) (before ++ variable_item n ∷ []) (next seen before s (variable_item n) (λ x d. d) (λ x d. d)) is f g) h)

-- ---- the parts of a list

-- a declaration among the later ones has the fault
record Among (before is : List Item) (f : Flaw) : Type 0 where
  between : List Item
  item : Item
  after : List Item
  parts : is ≡ between ++ item ∷ after
  fault : HasItemFault (before ++ between) item f

among : (before is : List Item) (f : Flaw) → Later before is f → Among before is f
among before [] f h = absurd h
among before (i ∷ is) f (inl h) = record { between = []; item = i; after = is; parts = refl; fault = subst (λ (bs : List Item). HasItemFault bs i f) (sym (append-nil before)) h }
among before (i ∷ is) f (inr h) =
    let r = among (before ++ i ∷ []) is f h in
    record { between = i ∷ r.between; item = r.item; after = r.after; parts = ap (λ (js : List Item). i ∷ js) r.parts; fault = subst (λ (bs : List Item). HasItemFault bs r.item f) (append_assoc before (i ∷ []) r.between) r.fault }

later : (before between after : List Item) (i : Item) (f : Flaw) → HasItemFault (before ++ between) i f → Later before (between ++ i ∷ after) f
later before [] after i f h = inl (subst (λ (bs : List Item). HasItemFault bs i f) (append-nil before) h)
later before (j ∷ between) after i f h = inr (later (before ++ j ∷ []) between after i f (subst (λ (bs : List Item). HasItemFault bs i f) (sym (append_assoc before (j ∷ []) between)) h))

nothing_seen : AreSeen [] []
nothing_seen x = inl (refl, λ d. d)

pub names_told_exactly : NamesToldExactly
names_told_exactly is f = (
  λ h. (let r = among [] is f (faulty [] [] nothing_seen is f h) in record { before = r.between; item = r.item; after = r.after; parts = r.parts; fault = r.fault }),
  λ r. told_of [] [] nothing_seen is f (subst (λ (js : List Item). Later [] js f) (sym r.parts) (later [] r.before r.after r.item f r.fault)),
)
