-- Exactly the names that need themselves are told.
use Rattle.std.proofs.Common.{◌≡◌, ◌≤◌, ◌⊎◌, inl, inr, ◌||◌, ℕ, zero, suc, length, List, [], ◌∷◌, ◌++◌, refl, sym, subst, ap, ◌∙◌, arith, Bool, true, false, Some, None, if◌then◌else◌, bytes_eq}
use Rattle.go_core.proofs.SameTypeLemmas.{bytes_one}
use Rattle.go_typing.specs.Env.{Bind, universe, is_blank}
use Rattle.go_typing.specs.Answer.{Flaw, flaw}
use Rattle.go_typing.specs.Faulty.{IsIn}
use Rattle.go_typing.specs.Items.{Item, name_of}
use Rattle.go_typing.specs.Cycles.{needs_of, is_among, joined, needs_named, needs_all, reached, needs_itself, cycles_from}
use Rattle.go_sound.specs.FaultyNames.{NeedsAfter, IsNamed, SomeCircle, CirclesToldExactly}
use Rattle.go_sound.proofs.Circles.{bytes_same, or_either, or_first, or_second, neither_first, neither_second, first_named, Needs, Leads, needs_first, reached_last, leads_reached}
use Rattle.go_sound.proofs.Exactly.{in_left, in_right, in_either}

-- ---- what is reached is led to

among_either : (x : List ℕ) (xs ys : List (List ℕ)) → is_among x (xs ++ ys) ≡ true → (is_among x xs ≡ true) ⊎ (is_among x ys ≡ true)
among_either x [] ys h = inr h
among_either x (z ∷ xs) ys h = by_case (λ k. among_either x xs ys k) (or_either (bytes_eq z x) (is_among x (xs ++ ys)) h)
  where
    second : (is_among x xs ≡ true) ⊎ (is_among x ys ≡ true) → ((bytes_eq z x || is_among x xs) ≡ true) ⊎ (is_among x ys ≡ true)
    second (inl e) = inl (or_second (bytes_eq z x) (is_among x xs) e)
    second (inr e) = inr e

    by_case : (is_among x (xs ++ ys) ≡ true → (is_among x xs ≡ true) ⊎ (is_among x ys ≡ true)) → (bytes_eq z x ≡ true) ⊎ (is_among x (xs ++ ys) ≡ true) → ((bytes_eq z x || is_among x xs) ≡ true) ⊎ (is_among x ys ≡ true)
    by_case f (inl e) = inl (or_first (bytes_eq z x) (is_among x xs) e)
    by_case f (inr e) = second (f e)

joined_either : (x : List ℕ) (xs ys : List (List ℕ)) → is_among x (joined xs ys) ≡ true → (is_among x xs ≡ true) ⊎ (is_among x ys ≡ true)
joined_either x xs [] h = inl h
joined_either x xs (y ∷ ys) h = by_case (joined_either x (if is_among y xs then xs else xs ++ y ∷ []) ys h)
  where
    single : (is_among x xs ≡ true) ⊎ ((bytes_eq y x || false) ≡ true) → (is_among x xs ≡ true) ⊎ ((bytes_eq y x || is_among x ys) ≡ true)
    single (inl e) = inl e
    single (inr e) = by_or (or_either (bytes_eq y x) false e)
      where
        by_or : (bytes_eq y x ≡ true) ⊎ (false ≡ true) → (is_among x xs ≡ true) ⊎ ((bytes_eq y x || is_among x ys) ≡ true)
        by_or (inl g) = inr (or_first (bytes_eq y x) (is_among x ys) g)
        by_or (inr g) = let e : false ≡ true = g in cc

    by_test : (c : Bool) → is_among x (if c then xs else xs ++ y ∷ []) ≡ true → (is_among x xs ≡ true) ⊎ ((bytes_eq y x || is_among x ys) ≡ true)
    by_test true e = inl e
    by_test false e = single (among_either x xs (y ∷ []) e)

    by_case : (is_among x (if is_among y xs then xs else xs ++ y ∷ []) ≡ true) ⊎ (is_among x ys ≡ true) → (is_among x xs ≡ true) ⊎ ((bytes_eq y x || is_among x ys) ≡ true)
    by_case (inl e) = by_test (is_among y xs) e
    by_case (inr e) = inr (or_second (bytes_eq y x) (is_among x ys) e)

module _ (ss : List (List Bind)) (is : List Item) where
  needed_by : (y : List ℕ) (xs : List (List ℕ)) → is_among y (needs_all ss is xs) ≡ true → (z : List ℕ) × (is_among z xs ≡ true) × Needs ss is z y
  needed_by y [] h = let e : false ≡ true = h in cc
  needed_by y (x ∷ xs) h = by_case (λ k. needed_by y xs k) (among_either y (needs_named ss is x is) (needs_all ss is xs) h)
    where
      more : (z : List ℕ) × (is_among z xs ≡ true) × Needs ss is z y → (z : List ℕ) × (is_among z (x ∷ xs) ≡ true) × Needs ss is z y
      more r = (r.0, or_second (bytes_eq x r.0) (is_among r.0 xs) r.1, r.2)

      by_case : (is_among y (needs_all ss is xs) ≡ true → (z : List ℕ) × (is_among z xs ≡ true) × Needs ss is z y) → (is_among y (needs_named ss is x is) ≡ true) ⊎ (is_among y (needs_all ss is xs) ≡ true)
          → (z : List ℕ) × (is_among z (x ∷ xs) ≡ true) × Needs ss is z y
      by_case f (inl e) = (x, or_first (bytes_eq x x) (is_among x xs) (bytes_same x), e)
      by_case f (inr e) = more (f e)

  abbrev LeadsWithin : ℕ → List ℕ → List ℕ → Type 0
  LeadsWithin n x y = (m : ℕ) × (m ≤ n) × Leads ss is m x y

  reached_leads : (n : ℕ) (x y : List ℕ) → is_among y (reached ss is n (needs_named ss is x is)) ≡ true → LeadsWithin n x y
  reached_leads zero x y h = (zero, omega arith, h)
  reached_leads (suc n) x y h =
      by_case (λ z k. reached_leads n x z k)
      (joined_either y (reached ss is n (needs_named ss is x is)) (needs_all ss is (reached ss is n (needs_named ss is x is))) (subst (λ (xs : List (List ℕ)). is_among y xs ≡ true) (reached_last ss is n (needs_named ss is x is)) h))
    where
      sooner : LeadsWithin n x y → LeadsWithin (suc n) x y
      sooner r = let l = r.1 in (r.0, omega arith, r.2)

      one_more : (z : List ℕ) → LeadsWithin n x z → Needs ss is z y → LeadsWithin (suc n) x y
      one_more z r k = let l = r.1 in (suc r.0, omega arith, (z, r.2, k))

      by_needed : ((z : List ℕ) → is_among z (reached ss is n (needs_named ss is x is)) ≡ true → LeadsWithin n x z) → (z : List ℕ) × (is_among z (reached ss is n (needs_named ss is x is)) ≡ true) × Needs ss is z y → LeadsWithin (suc n) x y
      by_needed f r = one_more r.0 (f r.0 r.1) r.2

      by_case : ((z : List ℕ) → is_among z (reached ss is n (needs_named ss is x is)) ≡ true → LeadsWithin n x z)
          → (is_among y (reached ss is n (needs_named ss is x is)) ≡ true) ⊎ (is_among y (needs_all ss is (reached ss is n (needs_named ss is x is))) ≡ true) → LeadsWithin (suc n) x y
      by_case f (inl e) = sooner (f y e)
      by_case f (inr e) = by_needed f (needed_by y (reached ss is n (needs_named ss is x is)) e)

  leads_after : (n : ℕ) (x y : List ℕ) → Leads ss is n x y → NeedsAfter ss is n x y
  leads_after zero x y h = h
  leads_after (suc n) x y h = (h.0, leads_after n x h.0 h.1, h.2)

  after_leads : (n : ℕ) (x y : List ℕ) → NeedsAfter ss is n x y → Leads ss is n x y
  after_leads zero x y h = h
  after_leads (suc n) x y h = (h.0, after_leads n x h.0 h.1, h.2)

  -- ---- one after the other

  record Circle (seen : List (List ℕ)) (js : List Item) (f : Flaw) : Type 0 where
    between : List Item
    item : Item
    after : List Item
    parts : js ≡ between ++ item ∷ after
    not_blank : is_blank (name_of item).text ≡ false
    unseen : is_among (name_of item).text seen ≡ false
    not_between : IsNamed between (name_of item).text → ⊥
    itself : needs_itself ss is item ≡ true
    is_told : f ≡ flaw (name_of item).place 74

  circle_first : (seen : List (List ℕ)) (i : Item) (js : List Item) (f : Flaw)
      → IsIn f (if is_blank (name_of i).text || is_among (name_of i).text seen then [] else (if needs_itself ss is i then flaw (name_of i).place 74 ∷ [] else [])) → Circle seen (i ∷ js) f
  circle_first seen i js f h = by_names (is_blank (name_of i).text || is_among (name_of i).text seen) refl h
    where
      found : (is_blank (name_of i).text || is_among (name_of i).text seen) ≡ false → needs_itself ss is i ≡ true → f ≡ flaw (name_of i).place 74 → Circle seen (i ∷ js) f
      found e g k = record {
        between = [];
        item = i;
        after = js;
        parts = refl;
        not_blank = neither_first (is_blank (name_of i).text) (is_among (name_of i).text seen) e;
        unseen = neither_second (is_blank (name_of i).text) (is_among (name_of i).text seen) e;
        not_between = λ d. d;
        itself = g;
        is_told = k;
      }

      by_itself : (is_blank (name_of i).text || is_among (name_of i).text seen) ≡ false → (c : Bool) → needs_itself ss is i ≡ c → IsIn f (if c then flaw (name_of i).place 74 ∷ [] else []) → Circle seen (i ∷ js) f
      by_itself e true g (inl k) = found e g (sym k)
      by_itself e true g (inr k) = absurd k
      by_itself e false g k = absurd k

      by_names : (c : Bool) → (is_blank (name_of i).text || is_among (name_of i).text seen) ≡ c → IsIn f (if c then [] else (if needs_itself ss is i then flaw (name_of i).place 74 ∷ [] else [])) → Circle seen (i ∷ js) f
      by_names true e k = absurd k
      by_names false e k = by_itself e (needs_itself ss is i) refl k

  circle_later : (seen : List (List ℕ)) (i : Item) (js : List Item) (f : Flaw) → Circle ((name_of i).text ∷ seen) js f → Circle seen (i ∷ js) f
  circle_later seen i js f r = record {
    between = i ∷ r.between;
    item = r.item;
    after = r.after;
    parts = ap (λ (ks : List Item). i ∷ ks) r.parts;
    not_blank = r.not_blank;
    unseen = neither_second (bytes_eq (name_of i).text (name_of r.item).text) (is_among (name_of r.item).text seen) r.unseen;
    not_between = not_named;
    itself = r.itself;
    is_told = r.is_told;
  }
    where
      not_named : IsNamed (i ∷ r.between) (name_of r.item).text → ⊥
      not_named (inl e) =
          let g : true ≡ false =
          sym (bytes_same (name_of i).text) ∙ ap (bytes_eq (name_of i).text) e ∙ neither_first (bytes_eq (name_of i).text (name_of r.item).text) (is_among (name_of r.item).text seen) r.unseen in
          cc
      not_named (inr d) = r.not_between d

  circle_of : (seen : List (List ℕ)) (js : List Item) (f : Flaw) → IsIn f (cycles_from ss is seen js) → Circle seen js f
  circle_of seen [] f h = absurd h
  circle_of seen (i ∷ js) f h =
      by_case (λ k. circle_of ((name_of i).text ∷ seen) js f k)
      (in_either f (if is_blank (name_of i).text || is_among (name_of i).text seen then [] else (if needs_itself ss is i then flaw (name_of i).place 74 ∷ [] else [])) (cycles_from ss is ((name_of i).text ∷ seen) js) h)
    where
      by_case : (IsIn f (cycles_from ss is ((name_of i).text ∷ seen) js) → Circle ((name_of i).text ∷ seen) js f)
          → IsIn f (if is_blank (name_of i).text || is_among (name_of i).text seen then [] else (if needs_itself ss is i then flaw (name_of i).place 74 ∷ [] else [])) ⊎ IsIn f (cycles_from ss is ((name_of i).text ∷ seen) js) → Circle seen (i ∷ js) f
      by_case g (inl k) = circle_first seen i js f k
      by_case g (inr k) = circle_later seen i js f (g k)

  told_of_circle : (seen : List (List ℕ)) (between : List Item) (i : Item) (after : List Item) (f : Flaw) → is_blank (name_of i).text ≡ false → is_among (name_of i).text seen ≡ false → (IsNamed between (name_of i).text → ⊥) → needs_itself ss is i ≡ true
      → f ≡ flaw (name_of i).place 74 → IsIn f (cycles_from ss is seen (between ++ i ∷ after))
  told_of_circle seen [] i after f b u n e k =
      in_left f (if is_blank (name_of i).text || is_among (name_of i).text seen then [] else (if needs_itself ss is i then flaw (name_of i).place 74 ∷ [] else [])) (cycles_from ss is ((name_of i).text ∷ seen) after)
      (here (is_blank (name_of i).text) (is_among (name_of i).text seen) (needs_itself ss is i) b u e)
    where
      here : (c d g : Bool) → c ≡ false → d ≡ false → g ≡ true → IsIn f (if c || d then [] else (if g then flaw (name_of i).place 74 ∷ [] else []))
      here true d g l m o = let q : true ≡ false = l in cc
      here false true g l m o = let q : true ≡ false = m in cc
      here false false false l m o = let q : false ≡ true = o in cc
      here false false true l m o = inl (sym k)
  told_of_circle seen (j ∷ between) i after f b u n e k =
      in_right f (if is_blank (name_of j).text || is_among (name_of j).text seen then [] else (if needs_itself ss is j then flaw (name_of j).place 74 ∷ [] else [])) (cycles_from ss is ((name_of j).text ∷ seen) (between ++ i ∷ after))
      (told_of_circle ((name_of j).text ∷ seen) between i after f b (not_seen (bytes_eq (name_of j).text (name_of i).text) refl) (λ d. n (inr d)) e k)
    where
      not_seen : (c : Bool) → bytes_eq (name_of j).text (name_of i).text ≡ c → (bytes_eq (name_of j).text (name_of i).text || is_among (name_of i).text seen) ≡ false
      not_seen true g = absurd (n (inl (bytes_one (name_of j).text (name_of i).text g)))
      not_seen false g = ap (λ (c : Bool). c || is_among (name_of i).text seen) g ∙ u

-- ---- the first of its name

first_of : (before : List Item) (i : Item) (after : List Item) → (IsNamed before (name_of i).text → ⊥) → first_named (name_of i).text (before ++ i ∷ after) ≡ Some i
first_of [] i after n = ap (λ (c : Bool). if c then Some i else first_named (name_of i).text after) (bytes_same (name_of i).text)
first_of (j ∷ before) i after n = by_test (bytes_eq (name_of j).text (name_of i).text) refl (first_of before i after (λ d. n (inr d)))
  where
    by_test : (c : Bool) → bytes_eq (name_of j).text (name_of i).text ≡ c → first_named (name_of i).text (before ++ i ∷ after) ≡ Some i → (if c then Some j else first_named (name_of i).text (before ++ i ∷ after)) ≡ Some i
    by_test true e h = absurd (n (inl (bytes_one (name_of j).text (name_of i).text e)))
    by_test false e h = h

-- what the item needs is what its name needs
own_needs : (ss : List (List Bind)) (is before : List Item) (i : Item) (after : List Item) → is ≡ before ++ i ∷ after → (IsNamed before (name_of i).text → ⊥) → needs_named ss is (name_of i).text is ≡ needs_of ss i
own_needs ss is before i after e n = needs_first ss is (name_of i).text is i (ap (first_named (name_of i).text) e ∙ first_of before i after n)

pub circles_told_exactly : CirclesToldExactly
circles_told_exactly binds is f = (λ h. there h, λ r. back r)
  where
    there : IsIn f (cycles_from (universe None ∷ binds ∷ []) is [] is) → SomeCircle (universe None ∷ binds ∷ []) is f
    there h = record {
      before = c.between;
      item = c.item;
      after = c.after;
      parts = c.parts;
      not_blank = c.not_blank;
      first = c.not_between;
      steps = l.0;
      few = l.1;
      circle = leads_after (universe None ∷ binds ∷ []) is l.0 (name_of c.item).text (name_of c.item).text l.2;
      is_told = c.is_told;
    }
      where
        c : Circle (universe None ∷ binds ∷ []) is [] is f
        c = circle_of (universe None ∷ binds ∷ []) is [] is f h

        l : (m : ℕ) × (m ≤ length is) × Leads (universe None ∷ binds ∷ []) is m (name_of c.item).text (name_of c.item).text
        l =
            reached_leads (universe None ∷ binds ∷ []) is (length is) (name_of c.item).text (name_of c.item).text
            (ap (λ (xs : List (List ℕ)). is_among (name_of c.item).text (reached (universe None ∷ binds ∷ []) is (length is) xs)) (own_needs (universe None ∷ binds ∷ []) is c.between c.item c.after c.parts c.not_between) ∙ c.itself)

    back : SomeCircle (universe None ∷ binds ∷ []) is f → IsIn f (cycles_from (universe None ∷ binds ∷ []) is [] is)
    back r =
        subst (λ (js : List Item). IsIn f (cycles_from (universe None ∷ binds ∷ []) is [] js)) (sym r.parts)
        (told_of_circle (universe None ∷ binds ∷ []) is [] r.before r.item r.after f r.not_blank refl r.first itself r.is_told)
      where
        itself : needs_itself (universe None ∷ binds ∷ []) is r.item ≡ true
        itself =
            ap (λ (xs : List (List ℕ)). is_among (name_of r.item).text (reached (universe None ∷ binds ∷ []) is (length is) xs)) (sym (own_needs (universe None ∷ binds ∷ []) is r.before r.item r.after r.parts r.first))
            ∙ leads_reached (universe None ∷ binds ∷ []) is (length is) r.steps (name_of r.item).text (name_of r.item).text r.few (after_leads (universe None ∷ binds ∷ []) is r.steps (name_of r.item).text (name_of r.item).text r.circle)
