-- What a name of the package's scope stands for, where one row more is typed.
use Rattle.std.proofs.lemmas.Slice.Eq.{bytes_eq-Decides}
use Rattle.std.proofs.Common.{arith, ◌≡◌, ◌⊎◌, inl, inr, ◌+◌, ℕ, zero, suc, List, [], ◌∷◌, ◌++◌, refl, sym, subst, ap, ◌∙◌, Bool, true, false, if◌then◌else◌, Option, Some, None, bytes_eq}
use Rattle.gj_base.specs.declared.place.Place.{Place}
use Rattle.go_syntax.specs.declared.tree.Name.{Name}
use Rattle.go_typing.specs.Env.{Decl, Bind, is_blank}
use Rattle.go_typing.specs.Scopes.{place_in, settle_in}
use Rattle.go_typing.specs.Walk.{bind_of}
use Rattle.go_typing.specs.Items.{Item, name_of}
use Rattle.go_typing.specs.Known.{Known, decl_of, bound_at, with_item}
use Rattle.go_sound.proofs.Among.{own_text, same_text}
use Rattle.go_items.specs.Leads.{number_from}
use Rattle.go_sound.specs.Rows.{Row, items_in, binds_by, typed_at}
use Rattle.go_items.specs.Stands.{IsRow}

turned : (x y : List ℕ) → bytes_eq x y ≡ bytes_eq y x
turned x y = grind (arith, bytes_eq-Decides)

-- ---- a list in which a name is, or isn't

abbrev pub IsThere : List ℕ → List Bind → Type 0
IsThere x bs = (at : Place) × (place_in x bs ≡ Some at)

there_more : (x : List ℕ) (bs : List Bind) (b : Bind) → IsThere x bs → IsThere x (bs ++ b ∷ [])
there_more x [] b h = let e : None ≡ Some h.0 = h.1 in cc
there_more x (c ∷ bs) b h = by_test (bytes_eq c.name x) h.1 (λ e. there_more x bs b (h.0, e))
  where
    by_test : (t : Bool) → (if t then Some c.place else place_in x bs) ≡ Some h.0 → (place_in x bs ≡ Some h.0 → IsThere x (bs ++ b ∷ [])) → (at : Place) × ((if t then Some c.place else place_in x (bs ++ b ∷ [])) ≡ Some at)
    by_test true e f = (c.place, refl)
    by_test false e f = f e

there_new : (bs : List Bind) (b : Bind) → IsThere b.name (bs ++ b ∷ [])
there_new [] b = (b.place, ap (λ (t : Bool). if t then Some b.place else None) (own_text b.name))
there_new (c ∷ bs) b = by_test (bytes_eq c.name b.name) (there_new bs b)
  where
    by_test : (t : Bool) → IsThere b.name (bs ++ b ∷ []) → (at : Place) × ((if t then Some c.place else place_in b.name (bs ++ b ∷ [])) ≡ Some at)
    by_test true h = (c.place, refl)
    by_test false h = h

absent_more : (x : List ℕ) (bs : List Bind) (b : Bind) → bytes_eq b.name x ≡ false → place_in x bs ≡ None → place_in x (bs ++ b ∷ []) ≡ None
absent_more x [] b e h = ap (λ (t : Bool). if t then Some b.place else None) e
absent_more x (c ∷ bs) b e h = by_test (bytes_eq c.name x) h (λ k. absent_more x bs b e k)
  where
    by_test : (t : Bool) → (if t then Some c.place else place_in x bs) ≡ None → (place_in x bs ≡ None → place_in x (bs ++ b ∷ []) ≡ None) → (if t then Some c.place else place_in x (bs ++ b ∷ [])) ≡ None
    by_test true k f = let g : Some c.place ≡ None = k in cc
    by_test false k f = f k

-- ---- a name that is settled

module _ (x : List ℕ) (d : Decl) where
  abbrev renewed : Bind → Bind
  renewed b = record b { what = d }

  places_kept : (y : List ℕ) (bs : List Bind) → place_in y (settle_in x d bs) ≡ place_in y bs
  places_kept y [] = refl
  places_kept y (b ∷ bs) = by_test (bytes_eq b.name x) (places_kept y bs)
    where
      by_test : (t : Bool) → place_in y (settle_in x d bs) ≡ place_in y bs → place_in y (if t then renewed b ∷ bs else b ∷ settle_in x d bs) ≡ place_in y (b ∷ bs)
      by_test true h = refl
      by_test false h = ap (λ (o : Option Place). if bytes_eq b.name y then Some b.place else o) h

  -- one more at the end
  settled_more : (bs : List Bind) (b : Bind) → IsThere x bs → settle_in x d (bs ++ b ∷ []) ≡ settle_in x d bs ++ b ∷ []
  settled_more [] b h = let e : None ≡ Some h.0 = h.1 in cc
  settled_more (c ∷ bs) b h = by_test (bytes_eq c.name x) h.1 (λ e. settled_more bs b (h.0, e))
    where
      by_test : (t : Bool) → (if t then Some c.place else place_in x bs) ≡ Some h.0 → (place_in x bs ≡ Some h.0 → settle_in x d (bs ++ b ∷ []) ≡ settle_in x d bs ++ b ∷ [])
          → (if t then renewed c ∷ (bs ++ b ∷ []) else c ∷ settle_in x d (bs ++ b ∷ [])) ≡ (if t then renewed c ∷ bs else c ∷ settle_in x d bs) ++ b ∷ []
      by_test true e f = refl
      by_test false e f = ap (λ (cs : List Bind). c ∷ cs) (f e)

  bound_settled : (n : Name) (w : Decl) (o : Option Place) (bs : List Bind) → IsThere x bs → bound_at (bind_of n w) o (settle_in x d bs) ≡ settle_in x d (bound_at (bind_of n w) o bs)
  bound_settled n w (Some at) bs h = refl
  bound_settled n w None bs h = sym (settled_more bs (bind_of n w) h)

  item_settled : (n : Name) (w : Decl) (bs : List Bind) → IsThere x bs → with_item n w (settle_in x d bs) ≡ settle_in x d (with_item n w bs)
  item_settled n w bs h = by_test (is_blank n.text)
    where
      by_test : (t : Bool) → (if t then settle_in x d bs else bound_at (bind_of n w) (place_in n.text (settle_in x d bs)) (settle_in x d bs)) ≡ settle_in x d (if t then bs else bound_at (bind_of n w) (place_in n.text bs) bs)
      by_test true = refl
      by_test false = ap (λ (o : Option Place). bound_at (bind_of n w) o (settle_in x d bs)) (places_kept n.text bs) ∙ bound_settled n w (place_in n.text bs) bs h

  bound_there : (n : Name) (w : Decl) (o : Option Place) (bs : List Bind) → IsThere x bs → IsThere x (bound_at (bind_of n w) o bs)
  bound_there n w (Some at) bs h = h
  bound_there n w None bs h = there_more x bs (bind_of n w) h

  item_there : (n : Name) (w : Decl) (bs : List Bind) → IsThere x bs → IsThere x (with_item n w bs)
  item_there n w bs h = by_test (is_blank n.text)
    where
      by_test : (t : Bool) → IsThere x (if t then bs else bound_at (bind_of n w) (place_in n.text bs) bs)
      by_test true = h
      by_test false = bound_there n w (place_in n.text bs) bs h

  -- a name that is there is settled before or after the others are added
  rows_settled : (rs : List Row) (bs : List Bind) → IsThere x bs → binds_by rs (settle_in x d bs) ≡ settle_in x d (binds_by rs bs)
  rows_settled [] bs h = refl
  rows_settled (r ∷ rs) bs h =
      ap (binds_by rs) (item_settled (name_of r.item) r.what bs h) ∙ rows_settled rs (with_item (name_of r.item) r.what bs) (item_there (name_of r.item) r.what bs h)

-- a new name at the end
settled_new : (x : List ℕ) (d w : Decl) (at : Place) (bs : List Bind) → place_in x bs ≡ None → settle_in x d (bs ++ record { name = x; place = at; what = w } ∷ []) ≡ bs ++ record { name = x; place = at; what = d } ∷ []
settled_new x d w at [] h = ap (λ (t : Bool). if t then record { name = x; place = at; what = d } ∷ [] else record { name = x; place = at; what = w } ∷ []) (own_text x)
settled_new x d w at (c ∷ bs) h = by_test (bytes_eq c.name x) h (λ k. settled_new x d w at bs k)
  where
    by_test : (t : Bool) → (if t then Some c.place else place_in x bs) ≡ None
        → (place_in x bs ≡ None → settle_in x d (bs ++ record { name = x; place = at; what = w } ∷ []) ≡ bs ++ record { name = x; place = at; what = d } ∷ [])
        → (if t then record c { what = d } ∷ (bs ++ record { name = x; place = at; what = w } ∷ []) else c ∷ settle_in x d (bs ++ record { name = x; place = at; what = w } ∷ []))
        ≡ c ∷ (bs ++ record { name = x; place = at; what = d } ∷ [])
    by_test true k f = let g : Some c.place ≡ None = k in cc
    by_test false k f = ap (λ (cs : List Bind). c ∷ cs) (f k)

-- ---- one name in a scope

-- where the name isn't there yet
added : (n : Name) (w : Decl) (bs : List Bind) → is_blank n.text ≡ false → place_in n.text bs ≡ None → with_item n w bs ≡ bs ++ bind_of n w ∷ []
added n w bs e h =
    ap (λ (t : Bool). if t then bs else bound_at (bind_of n w) (place_in n.text bs) bs) e ∙ ap (λ (o : Option Place). bound_at (bind_of n w) o bs) h

-- where it is, or is `_`
unchanged : (n : Name) (w : Decl) (bs : List Bind) → (is_blank n.text ≡ true) ⊎ IsThere n.text bs → with_item n w bs ≡ bs
unchanged n w bs (inl e) = ap (λ (t : Bool). if t then bs else bound_at (bind_of n w) (place_in n.text bs) bs) e
unchanged n w bs (inr h) = ap (λ (o : Option Place). if is_blank n.text then bs else bound_at (bind_of n w) o bs) h.1 ∙ by_test (is_blank n.text)
  where
    by_test : (t : Bool) → (if t then bs else bs) ≡ bs
    by_test true = refl
    by_test false = refl

absent_item : (x : List ℕ) (n : Name) (w : Decl) (bs : List Bind) → bytes_eq n.text x ≡ false → place_in x bs ≡ None → place_in x (with_item n w bs) ≡ None
absent_item x n w bs e h = by_test (is_blank n.text) (place_in n.text bs)
  where
    by_test : (t : Bool) (o : Option Place) → place_in x (if t then bs else bound_at (bind_of n w) o bs) ≡ None
    by_test true o = h
    by_test false (Some at) = h
    by_test false None = absent_more x bs (bind_of n w) e h

-- ---- one row

-- the first declaration of a name
pub first_settled : (k : Known) (i : Item) (rs : List Row) (n m : ℕ) (bs : List Bind) → IsRow rs n i → is_blank (name_of i).text ≡ false → place_in (name_of i).text bs ≡ None
    → number_from m (name_of i).text (items_in rs) ≡ Some (m + n) → binds_by (typed_at k n rs) bs ≡ settle_in (name_of i).text (decl_of k i) (binds_by rs bs)
first_settled k i [] n m bs h b a f = absurd h
first_settled k i (r ∷ rs) zero m bs h b a f =
    subst (λ (j : Item). binds_by rs (with_item (name_of j) (decl_of k j) bs) ≡ settle_in (name_of i).text (decl_of k i) (binds_by rs (with_item (name_of j) r.what bs))) (sym h) here
  where
    x : List ℕ
    x = (name_of i).text

    old : List Bind
    old = bs ++ bind_of (name_of i) r.what ∷ []

    here : binds_by rs (with_item (name_of i) (decl_of k i) bs) ≡ settle_in x (decl_of k i) (binds_by rs (with_item (name_of i) r.what bs))
    here =
        ap (binds_by rs) (added (name_of i) (decl_of k i) bs b a ∙ sym (settled_new x (decl_of k i) r.what (name_of i).place bs a))
        ∙ rows_settled x (decl_of k i) rs old (there_new bs (bind_of (name_of i) r.what))
        ∙ ap (λ (cs : List Bind). settle_in x (decl_of k i) (binds_by rs cs)) (sym (added (name_of i) r.what bs b a))
first_settled k i (r ∷ rs) (suc n) m bs h b a f = by_test (bytes_eq (name_of i).text (name_of r.item).text) refl f (λ c e. first_settled k i rs n (suc m) (with_item (name_of r.item) r.what bs) h b c e)
  where
    x : List ℕ
    x = (name_of i).text

    by_test : (t : Bool) → bytes_eq x (name_of r.item).text ≡ t → (if t then Some m else number_from (suc m) x (items_in rs)) ≡ Some (m + suc n)
        → (place_in x (with_item (name_of r.item) r.what bs) ≡ None → number_from (suc m) x (items_in rs) ≡ Some (suc m + n) → binds_by (typed_at k n rs) (with_item (name_of r.item) r.what bs) ≡ settle_in x (decl_of k i) (binds_by rs (with_item (name_of r.item) r.what bs)))
        → binds_by (typed_at k n rs) (with_item (name_of r.item) r.what bs) ≡ settle_in x (decl_of k i) (binds_by rs (with_item (name_of r.item) r.what bs))
    by_test true t e g = let q : m ≡ m + suc n = some_same m (m + suc n) e in absurd (omega arith)
      where
        some_same : (p q : ℕ) → Some p ≡ Some q → p ≡ q
        some_same p q s = cc
    by_test false t e g =
        let q : m + suc n ≡ suc m + n = omega arith in
        g (absent_item x (name_of r.item) r.what bs (turned (name_of r.item).text x ∙ t) a) (e ∙ ap (λ (j : ℕ). Some j) q)

-- a later one, or `_`
pub later_kept : (k : Known) (i : Item) (rs : List Row) (n : ℕ) (bs : List Bind) → IsRow rs n i → (is_blank (name_of i).text ≡ true) ⊎ IsThere (name_of i).text bs → binds_by (typed_at k n rs) bs ≡ binds_by rs bs
later_kept k i [] n bs h l = absurd h
later_kept k i (r ∷ rs) zero bs h l =
    subst (λ (j : Item). binds_by rs (with_item (name_of j) (decl_of k j) bs) ≡ binds_by rs (with_item (name_of j) r.what bs)) (sym h)
    (ap (binds_by rs) (unchanged (name_of i) (decl_of k i) bs l ∙ sym (unchanged (name_of i) r.what bs l)))
later_kept k i (r ∷ rs) (suc n) bs h l = later_kept k i rs n (with_item (name_of r.item) r.what bs) h (still l)
  where
    still : (is_blank (name_of i).text ≡ true) ⊎ IsThere (name_of i).text bs → (is_blank (name_of i).text ≡ true) ⊎ IsThere (name_of i).text (with_item (name_of r.item) r.what bs)
    still (inl e) = inl e
    still (inr e) = inr (item_there (name_of i).text (decl_of k i) (name_of r.item) r.what bs e)

-- a name is there once it is declared, unless it is `_`
named_there : (i : Item) (n : Name) (w : Decl) (bs : List Bind) → (name_of i).text ≡ n.text → (is_blank (name_of i).text ≡ true) ⊎ IsThere (name_of i).text (with_item n w bs)
named_there i n w bs e = by_test (is_blank (name_of i).text) refl
  where
    x : List ℕ
    x = (name_of i).text

    by_place : is_blank n.text ≡ false → (o : Option Place) → place_in n.text bs ≡ o → IsThere n.text (with_item n w bs)
    by_place b (Some at) q = subst (IsThere n.text) (sym (unchanged n w bs (inr (at, q)))) (at, q)
    by_place b None q = subst (IsThere n.text) (sym (added n w bs b q)) (there_new bs (bind_of n w))

    by_test : (t : Bool) → is_blank x ≡ t → (is_blank x ≡ true) ⊎ IsThere x (with_item n w bs)
    by_test true t = inl t
    by_test false t = inr (subst (λ (y : List ℕ). IsThere y (with_item n w bs)) (sym e) (by_place (subst (λ (y : List ℕ). is_blank y ≡ false) e t) (place_in n.text bs) refl))

-- where the number is that of another declaration of the name
pub another_kept : (k : Known) (i : Item) (rs : List Row) (n m : ℕ) (bs : List Bind) → IsRow rs n i → (number_from m (name_of i).text (items_in rs) ≡ Some (m + n) → ⊥)
    → binds_by (typed_at k n rs) bs ≡ binds_by rs bs
another_kept k i [] n m bs h f = absurd h
another_kept k i (r ∷ rs) zero m bs h f = absurd (f (by_own (bytes_eq (name_of i).text (name_of r.item).text) own))
  where
    own : bytes_eq (name_of i).text (name_of r.item).text ≡ true
    own = ap (λ (j : Item). bytes_eq (name_of i).text (name_of j).text) h ∙ own_text (name_of i).text

    by_own : (t : Bool) → t ≡ true → (if t then Some m else number_from (suc m) (name_of i).text (items_in rs)) ≡ Some (m + zero)
    by_own true t = let q : m ≡ m + zero = omega arith in ap (λ (j : ℕ). Some j) q
    by_own false t = cc
another_kept k i (r ∷ rs) (suc n) m bs h f = by_test (bytes_eq (name_of i).text (name_of r.item).text) refl f (λ g. another_kept k i rs n (suc m) (with_item (name_of r.item) r.what bs) h g)
  where
    x : List ℕ
    x = (name_of i).text

    by_test : (t : Bool) → bytes_eq x (name_of r.item).text ≡ t → ((if t then Some m else number_from (suc m) x (items_in rs)) ≡ Some (m + suc n) → ⊥)
        → ((number_from (suc m) x (items_in rs) ≡ Some (suc m + n) → ⊥) → binds_by (typed_at k n rs) (with_item (name_of r.item) r.what bs) ≡ binds_by rs (with_item (name_of r.item) r.what bs))
        → binds_by (typed_at k n rs) (with_item (name_of r.item) r.what bs) ≡ binds_by rs (with_item (name_of r.item) r.what bs)
    by_test true t g u = later_kept k i rs n (with_item (name_of r.item) r.what bs) h (named_there i (name_of r.item) r.what bs (same_text x (name_of r.item).text t))
    by_test false t g u = u (λ e. g (e ∙ (let q : suc m + n ≡ m + suc n = omega arith in ap (λ (j : ℕ). Some j) q)))
