-- In a table, what no depth below the number of its types shows, no depth shows.
use Rattle.std.proofs.Common.{◌≡◌, ℕ, zero, suc, ◌+◌, ◌-◌, ◌<◌, ◌≤◌, Bool, true, false, List, [], ◌∷◌, ◌++◌, get_or, length, map, refl, ap, sym, ◌∙◌, subst, arith, inl, inr}
use Rattle.std.specs.Prelude.{◌||◌, ◌⊎◌, if◌then◌else◌}
use Rattle.std.specs.List.{AllByRecursion, list_any}
use Rattle.std.proofs.lemmas.Bool.{cases_lt}
use Rattle.go_type.specs.Tree.{Ty, Fields, bool, no_fields, more_fields}
use Rattle.go_type.specs.Named.{NamedTy}
use Rattle.go_type.specs.Underlying.{underlying}
use Rattle.go_type.specs.Members.{Member, Sought, behind, own_members, members_at, through, fields_in, base_of, steps_to}
use Rattle.go_type.specs.Chains.{bases_of, embeds, goes_deep}

or_left : (a b : Bool) → a ≡ true → (a || b) ≡ true
or_left true b h = refl
or_left false b h = cc

or_right : (a b : Bool) → b ≡ true → (a || b) ≡ true
or_right true b h = refl
or_right false b h = h

or_split : (a b : Bool) → (a || b) ≡ true → (a ≡ true) ⊎ (b ≡ true)
or_split true b h = inl refl
or_split false b h = inr h

any_or : (p : Ty → Bool) (xs ys : List Ty) → list_any p (xs ++ ys) ≡ (list_any p xs || list_any p ys)
any_or p [] ys = refl
any_or p (x ∷ xs) ys = ap (λ (b : Bool). p x || b) (any_or p xs ys) ∙ assoc (p x) (list_any p xs) (list_any p ys)
  where
    assoc : (a b c : Bool) → (a || (b || c)) ≡ ((a || b) || c)
    assoc true b c = refl
    assoc false b c = refl

-- ---- where no chain goes on, there is nothing

module _ (ns : List NamedTy) (f : Sought) where
  dead_through : (p : Ty → List Member) (q : Ty → Bool) → ((t : Ty) → q t ≡ false → p t ≡ []) → (i : ℕ) (fs : Fields) → list_any q (bases_of fs) ≡ false → through p i fs ≡ []
  dead_through p q none i no_fields h = refl
  dead_through p q none i (more_fields name package_ t true tag fs) h =
      let g = split (q (base_of t)) (list_any q (bases_of fs)) h in
      let e : p (base_of t) ≡ [] = none (base_of t) g.0 in
      ap (λ (ms : List Member). map (behind (steps_to i t)) ms ++ through p (i + 1) fs) e ∙ dead_through p q none (i + 1) fs g.1
    where
      split : (a b : Bool) → (a || b) ≡ false → (a ≡ false) × (b ≡ false)
      split true b h = cc
      split false b h = (refl, h)
  dead_through p q none i (more_fields name package_ t false tag fs) h = dead_through p q none (i + 1) fs h

  pub dead : (d e : ℕ) (t : Ty) → d ≤ e → goes_deep ns d t ≡ false → members_at ns f e t ≡ []
  unfolding members_at goes_deep
  dead zero e t l h = cc
  dead (suc d) zero t l h = absurd (omega arith)
  dead (suc d) (suc e) t l h = dead_through (members_at ns f e) (goes_deep ns d) (λ u g. dead d e u (omega arith) g) 0 (fields_in (underlying ns t)) h

  -- ---- a member at some depth up to this one

  some : List Member → Bool
  some [] = false
  some (m ∷ ms) = true

  reach : ℕ → Ty → Bool
  reach zero t = some (own_members ns f t)
  reach (suc d) t = some (own_members ns f t) || list_any (reach d) (embeds ns t)

  none_some : (ms : List Member) → some ms ≡ false → ms ≡ []
  unfolding some
  none_some [] h = refl
  none_some (m ∷ ms) h = cc

  -- the other way round: what isn't reached is empty
  unreached : (d e : ℕ) (t : Ty) → e ≤ d → reach d t ≡ false → members_at ns f e t ≡ []
  unfolding members_at reach
  unreached zero zero t l h = none_some (own_members ns f t) h
  unreached zero (suc e) t l h = absurd (omega arith)
  unreached (suc d) zero t l h = none_some (own_members ns f t) (left (some (own_members ns f t)) (list_any (reach d) (embeds ns t)) h)
    where
      left : (a b : Bool) → (a || b) ≡ false → a ≡ false
      left true b h = cc
      left false b h = refl
  unreached (suc d) (suc e) t l h =
      dead_through (members_at ns f e) (reach d) (λ u g. unreached d e u (omega arith) g) 0 (fields_in (underlying ns t)) (right (some (own_members ns f t)) (list_any (reach d) (embeds ns t)) h)
    where
      right : (a b : Bool) → (a || b) ≡ false → b ≡ false
      right true b h = cc
      right false b h = h

  module _ (d : ℕ) (none : (t : Ty) → ((e : ℕ) → e ≤ d → members_at ns f e t ≡ []) → reach d t ≡ false) where
    through_none : (i : ℕ) (fs : Fields) → ((e : ℕ) → e ≤ d → through (members_at ns f e) i fs ≡ []) → list_any (reach d) (bases_of fs) ≡ false
    through_none i no_fields h = refl
    through_none i (more_fields name package_ t true tag fs) h =
        join (reach d (base_of t)) (list_any (reach d) (bases_of fs))
        (none (base_of t) (λ e l. unmapped (members_at ns f e (base_of t)) (split (map (behind (steps_to i t)) (members_at ns f e (base_of t))) (through (members_at ns f e) (i + 1) fs) (h e l)).0))
        (through_none (i + 1) fs (λ e l. (split (map (behind (steps_to i t)) (members_at ns f e (base_of t))) (through (members_at ns f e) (i + 1) fs) (h e l)).1))
      where
        split : (xs ys : List Member) → xs ++ ys ≡ [] → (xs ≡ []) × (ys ≡ [])
        split [] ys h = (refl, h)
        split (x ∷ xs) ys h = cc

        unmapped : (xs : List Member) → map (behind (steps_to i t)) xs ≡ [] → xs ≡ []
        unmapped [] h = refl
        unmapped (x ∷ xs) h = cc

        join : (a b : Bool) → a ≡ false → b ≡ false → (a || b) ≡ false
        join true b h k = cc
        join false b h k = k
    through_none i (more_fields name package_ t false tag fs) h = through_none (i + 1) fs h

  -- and what is empty at each depth isn't reached
  empty_unreached : (d : ℕ) (t : Ty) → ((e : ℕ) → e ≤ d → members_at ns f e t ≡ []) → reach d t ≡ false
  unfolding members_at reach some
  empty_unreached zero t h = ap some (h zero (omega arith))
  empty_unreached (suc d) t h =
      both (some (own_members ns f t)) (list_any (reach d) (embeds ns t)) (ap some (h zero (omega arith)))
      (through_none d (empty_unreached d) 0 (fields_in (underlying ns t)) (λ e l. h (suc e) (omega arith)))
    where
      both : (a b : Bool) → a ≡ false → b ≡ false → (a || b) ≡ false
      both true b h k = cc
      both false b h k = k

  -- ---- deeper reaches as much

  any_more : (p q : Ty → Bool) → ((t : Ty) → p t ≡ true → q t ≡ true) → (ts : List Ty) → list_any p ts ≡ true → list_any q ts ≡ true
  any_more p q more [] h = h
  any_more p q more (t ∷ ts) h =
      elim (or_split (p t) (list_any p ts) h) [ inl e ↦ or_left (q t) (list_any q ts) (more t e) | inr e ↦ or_right (q t) (list_any q ts) (any_more p q more ts e) ]

  deeper : (d : ℕ) (t : Ty) → reach d t ≡ true → reach (suc d) t ≡ true
  unfolding reach
  deeper zero t h = or_left (some (own_members ns f t)) (list_any (reach zero) (embeds ns t)) h
  deeper (suc d) t h =
      elim (or_split (some (own_members ns f t)) (list_any (reach d) (embeds ns t)) h) [
        | inl e ↦ or_left (some (own_members ns f t)) (list_any (reach (suc d)) (embeds ns t)) e
        | inr e ↦ or_right (some (own_members ns f t)) (list_any (reach (suc d)) (embeds ns t)) (any_more (reach d) (reach (suc d)) (deeper d) (embeds ns t) e)
      ]

  deeper_by : (k d : ℕ) (t : Ty) → reach d t ≡ true → reach (k + d) t ≡ true
  deeper_by zero d t h = subst (λ (n : ℕ). reach n t ≡ true) (omega arith) h
  deeper_by (suc k) d t h = subst (λ (n : ℕ). reach n t ≡ true) (omega arith) (deeper (k + d) t (deeper_by k d t h))

  -- ---- counting

  count : (Ty → Bool) → List Ty → ℕ
  count p [] = 0
  count p (t ∷ ts) = (if p t then 1 else 0) + count p ts

  count_all : (p : Ty → Bool) (ts : List Ty) → count p ts ≤ length ts
  unfolding count
  count_all p [] = omega arith
  count_all p (t ∷ ts) = let h = count_all p ts in let g = one (p t) in omega (arith, h, g)
    where
      one : (b : Bool) → (if b then 1 else 0) ≤ 1
      one true = omega arith
      one false = omega arith

  module _ (p q : Ty → Bool) (more : (t : Ty) → p t ≡ true → q t ≡ true) where
    each : (a b : Bool) → (a ≡ true → b ≡ true) → (if a then 1 else 0) ≤ (if b then 1 else 0)
    each true true h = omega arith
    each true false h = let e : false ≡ true = h refl in cc
    each false b h = omega arith

    count_more : (ts : List Ty) → count p ts ≤ count q ts
    unfolding count
    count_more [] = omega arith
    count_more (t ∷ ts) = omega (arith, each (p t) (q t) (more t), count_more ts)

    same_one : (a b : Bool) → (if b then 1 else 0) ≤ (if a then 1 else 0) → b ≡ true → a ≡ true
    same_one true b l h = refl
    same_one false true l h = absurd (omega arith)
    same_one false false l h = h

    -- where as many pass, the same pass
    count_same : (ts : List Ty) → count q ts ≤ count p ts → (i : ℕ) → i < length ts → q (get_or ts i bool) ≡ true → p (get_or ts i bool) ≡ true
    unfolding count
    count_same [] l i b h = absurd (omega arith)
    count_same (t ∷ ts) l zero b h = same_one (p t) (q t) (omega (arith, each (p t) (q t) (more t), count_more ts)) h
    count_same (t ∷ ts) l (suc i) b h = count_same ts (omega (arith, each (p t) (q t) (more t), count_more ts)) i (omega arith) h

-- a tree of the table
abbrev pub InPlaces : List Ty → Ty → Type 0
InPlaces ts t = (i : ℕ) × (i < length ts) × (get_or ts i bool ≡ t)

module _ (ns : List NamedTy) (f : Sought) (ts : List Ty) (closed : (i : ℕ) → i < length ts → AllByRecursion (InPlaces ts) (embeds ns (get_or ts i bool))) where
  Stable : ℕ → Type 0
  Stable j = (i : ℕ) → i < length ts → reach ns f (suc j) (get_or ts i bool) ≡ true → reach ns f j (get_or ts i bool) ≡ true

  stable_in : (j : ℕ) → Stable j → (t : Ty) → InPlaces ts t → reach ns f (suc j) t ≡ true → reach ns f j t ≡ true
  unfolding Stable
  stable_in j s t at h = subst (λ (u : Ty). reach ns f j u ≡ true) at.2 (s at.0 at.1 (subst (λ (u : Ty). reach ns f (suc j) u ≡ true) (sym at.2) h))

  any_stable : (j : ℕ) → Stable j → (us : List Ty) → AllByRecursion (InPlaces ts) us → list_any (reach ns f (suc j)) us ≡ true → list_any (reach ns f j) us ≡ true
  any_stable j s [] all h = h
  any_stable j s (u ∷ us) all h =
      elim (or_split (reach ns f (suc j) u) (list_any (reach ns f (suc j)) us) h) [
        | inl e ↦ or_left (reach ns f j u) (list_any (reach ns f j) us) (stable_in j s u all.0 e)
        | inr e ↦ or_right (reach ns f j u) (list_any (reach ns f j) us) (any_stable j s us all.1 e)
      ]

  stable_next : (j : ℕ) → Stable j → Stable (suc j)
  unfolding Stable reach
  stable_next j s i l h =
      let t = get_or ts i bool in
      elim (or_split (some ns f (own_members ns f t)) (list_any (reach ns f (suc j)) (embeds ns t)) h) [
        | inl e ↦ or_left (some ns f (own_members ns f t)) (list_any (reach ns f j) (embeds ns t)) e
        | inr e ↦ or_right (some ns f (own_members ns f t)) (list_any (reach ns f j) (embeds ns t)) (any_stable j s (embeds ns t) (closed i l) e)
      ]

  stable_on : (k j : ℕ) → Stable j → Stable (k + j)
  stable_on zero j s = subst Stable (omega arith) s
  stable_on (suc k) j s = subst Stable (omega arith) (stable_next (k + j) (stable_on k j s))

  down : (k j : ℕ) → Stable j → (i : ℕ) → i < length ts → reach ns f (k + j) (get_or ts i bool) ≡ true → reach ns f j (get_or ts i bool) ≡ true
  unfolding Stable
  down zero j s i l h = subst (λ (n : ℕ). reach ns f n (get_or ts i bool) ≡ true) (omega arith) h
  down (suc k) j s i l h = down k j s i l (stable_on k j s i l (subst (λ (n : ℕ). reach ns f n (get_or ts i bool) ≡ true) (omega arith) h))

  counted : ℕ → ℕ
  counted d = count ns f (reach ns f d) ts

  progress : (k : ℕ) → ((j : ℕ) × (j < k) × Stable j) ⊎ (k ≤ counted k)
  unfolding Stable counted
  progress zero = inr (omega arith)
  progress (suc k) = elim (progress k) [ inl s ↦ inl (s.0, omega (arith, s.1), s.2) | inr h ↦ by (cases_lt (counted k) (counted (suc k))) h ]
    where
      by : (counted k < counted (suc k)) ⊎ (counted (suc k) ≤ counted k) → k ≤ counted k → ((j : ℕ) × (j < suc k) × Stable j) ⊎ (suc k ≤ counted (suc k))
      by (inl l) h = inr (omega arith)
      by (inr l) h = inl (k, omega arith, λ i b r. count_same ns f (reach ns f k) (reach ns f (suc k)) (deeper ns f k) ts l i b r)

  settles : (j : ℕ) × (j ≤ length ts) × Stable j
  unfolding counted
  settles = elim (progress (suc (length ts))) [ inl s ↦ (s.0, omega (arith, s.1), s.2) | inr h ↦ absurd (omega (arith, h, count_all ns f (reach ns f (suc (length ts))) ts)) ]

  -- what is empty up to the number of types is empty at each depth
  pub empty_on : (i : ℕ) → i < length ts → ((e : ℕ) → e ≤ length ts → members_at ns f e (get_or ts i bool) ≡ []) → (e : ℕ) → members_at ns f e (get_or ts i bool) ≡ []
  empty_on i l none e = by (cases_lt (length ts) e)
    where
      t : Ty
      t = get_or ts i bool

      by_test : (b : Bool) → reach ns f e (get_or ts i bool) ≡ b → length ts < e → members_at ns f e (get_or ts i bool) ≡ []
      by_test false h k = unreached ns f e e (get_or ts i bool) (omega arith) h
      by_test true h k =
          let s = settles in
          let g : reach ns f ((e - s.0) + s.0) (get_or ts i bool) ≡ true = subst (λ (n : ℕ). reach ns f n (get_or ts i bool) ≡ true) (omega (arith, s.1)) h in
          let low : reach ns f s.0 (get_or ts i bool) ≡ true = down (e - s.0) s.0 s.2 i l g in
          let up : reach ns f ((length ts - s.0) + s.0) (get_or ts i bool) ≡ true = deeper_by ns f (length ts - s.0) s.0 (get_or ts i bool) low in
          let at : reach ns f (length ts) (get_or ts i bool) ≡ true = subst (λ (n : ℕ). reach ns f n (get_or ts i bool) ≡ true) (omega (arith, s.1)) up in
          let out : reach ns f (length ts) (get_or ts i bool) ≡ false = empty_unreached ns f (length ts) (get_or ts i bool) none in
          cc

      by : (length ts < e) ⊎ (e ≤ length ts) → members_at ns f e (get_or ts i bool) ≡ []
      by (inl k) = by_test (reach ns f e (get_or ts i bool)) refl k
      by (inr k) = none e k

-- ---- chains by depth

pub deep_zero : (ns : List NamedTy) (n : ℕ) (t : Ty) → n ≡ 0 → true ≡ goes_deep ns n t
unfolding goes_deep
deep_zero ns zero t e = refl
deep_zero ns (suc n) t e = absurd (omega arith)

pub deep_step : (ns : List NamedTy) (n : ℕ) (t : Ty) → (n ≡ 0 → ⊥) → list_any (goes_deep ns (n - 1)) (bases_of (fields_in (underlying ns t))) ≡ goes_deep ns n t
unfolding goes_deep
deep_step ns zero t h = absurd (h refl)
deep_step ns (suc n) t h = ap (λ (k : ℕ). list_any (goes_deep ns k) (bases_of (fields_in (underlying ns t)))) (omega arith)
