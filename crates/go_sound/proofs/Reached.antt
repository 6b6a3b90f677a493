-- What is reached within as many steps as there are declarations is all that is reached.
use Rattle.std.proofs.Common.{arith, ◌≡◌, ◌≤◌, ◌<◌, ◌⊎◌, inl, inr, ◌||◌, ◌∙◌, ℕ, zero, suc, length, List, [], ◌∷◌, ◌++◌, refl, sym, subst, ap, eq-or-lt_of_le, Bool, true, false, cond, if◌then◌else◌, bytes_eq}
use Rattle.go_typing.specs.Env.{Bind}
use Rattle.go_typing.specs.Items.{Item, name_of}
use Rattle.go_typing.specs.Cycles.{is_among, joined, needs_of, needs_named, needs_all, reached, needs_itself}
use Rattle.go_sound.specs.Circle.{texts, Needs, NeedsBy, NeedsItself, ReachesItself}
use Rattle.go_sound.proofs.Among.{same_text, own_text, or_either, or_first, or_second, among_left, among_right, among_either, joined_left, joined_right, joined_either}

-- ---- how many declared names aren't there

abbrev missing : List (List ℕ) → List Item → ℕ
missing xs [] = 0
missing xs (i ∷ is) = cond (is_among (name_of i).text xs) (missing xs is) (suc (missing xs is))

few : (xs : List (List ℕ)) (is : List Item) → missing xs is ≤ length is
few xs [] = omega arith
few xs (i ∷ is) = by_test (is_among (name_of i).text xs) (few xs is)
  where
    by_test : (b : Bool) → missing xs is ≤ length is → cond b (missing xs is) (suc (missing xs is)) ≤ suc (length is)
    by_test true h = omega arith
    by_test false h = omega arith

none_missing : (xs : List (List ℕ)) (is : List Item) (y : List ℕ) → missing xs is ≤ 0 → is_among y (texts is) ≡ true → is_among y xs ≡ true
none_missing xs [] y m d = let e : false ≡ true = d in cc
none_missing xs (i ∷ is) y m d = by_test (is_among (name_of i).text xs) refl m (or_either (bytes_eq (name_of i).text y) (is_among y (texts is)) d) (λ k q. none_missing xs is y k q)
  where
    by_test : (b : Bool) → is_among (name_of i).text xs ≡ b → cond b (missing xs is) (suc (missing xs is)) ≤ 0 → (bytes_eq (name_of i).text y ≡ true) ⊎ (is_among y (texts is) ≡ true)
        → (missing xs is ≤ 0 → is_among y (texts is) ≡ true → is_among y xs ≡ true) → is_among y xs ≡ true
    by_test true e k (inl q) f = subst (λ (z : List ℕ). is_among z xs ≡ true) (same_text (name_of i).text y q) e
    by_test true e k (inr q) f = f k q
    by_test false e k s f = absurd (omega arith)

module _ (xs ys : List (List ℕ)) (within : (x : List ℕ) → is_among x xs ≡ true → is_among x ys ≡ true) where
  fewer : (is : List Item) → missing ys is ≤ missing xs is
  fewer [] = omega arith
  fewer (i ∷ is) = by_test (is_among (name_of i).text xs) refl (is_among (name_of i).text ys) refl (fewer is)
    where
      by_test : (b : Bool) → is_among (name_of i).text xs ≡ b → (c : Bool) → is_among (name_of i).text ys ≡ c → missing ys is ≤ missing xs is
          → cond c (missing ys is) (suc (missing ys is)) ≤ cond b (missing xs is) (suc (missing xs is))
      by_test true e true f h = h
      by_test true e false f h = let g : true ≡ false = sym (within (name_of i).text e) ∙ f in cc
      by_test false e true f h = omega arith
      by_test false e false f h = omega arith

  -- the declared names of the one are all there in the other
  abbrev AllThere : List Item → Type 0
  AllThere [] = Unit {0}
  AllThere (i ∷ is) = (is_among (name_of i).text ys ≡ true → is_among (name_of i).text xs ≡ true) × AllThere is

  no_fewer : (is : List Item) → missing xs is ≤ missing ys is → AllThere is
  no_fewer [] h = tt
  no_fewer (i ∷ is) h = by_test (is_among (name_of i).text xs) refl (is_among (name_of i).text ys) refl h (fewer is) (λ k. no_fewer is k)
    where
      by_test : (b : Bool) → is_among (name_of i).text xs ≡ b → (c : Bool) → is_among (name_of i).text ys ≡ c
          → cond b (missing xs is) (suc (missing xs is)) ≤ cond c (missing ys is) (suc (missing ys is)) → missing ys is ≤ missing xs is → (missing xs is ≤ missing ys is → AllThere is)
          → (is_among (name_of i).text ys ≡ true → is_among (name_of i).text xs ≡ true) × AllThere is
      by_test true e true f l m r = (λ q. e, r l)
      by_test true e false f l m r = let g : true ≡ false = sym (within (name_of i).text e) ∙ f in cc
      by_test false e true f l m r = absurd (omega arith)
      by_test false e false f l m r = (λ q. let g : false ≡ true = sym f ∙ q in cc, r (omega arith))

  there_of : (is : List Item) (x : List ℕ) → AllThere is → is_among x (texts is) ≡ true → is_among x ys ≡ true → is_among x xs ≡ true
  there_of [] x a d h = let e : false ≡ true = d in cc
  there_of (i ∷ is) x a d h = by_case (or_either (bytes_eq (name_of i).text x) (is_among x (texts is)) d) (λ e. there_of is x a.1 e h)
    where
      by_case : (bytes_eq (name_of i).text x ≡ true) ⊎ (is_among x (texts is) ≡ true) → (is_among x (texts is) ≡ true → is_among x xs ≡ true) → is_among x xs ≡ true
      by_case (inl e) f =
          subst (λ (z : List ℕ). is_among z xs ≡ true) (same_text (name_of i).text x e) (a.0 (subst (λ (z : List ℕ). is_among z ys ≡ true) (sym (same_text (name_of i).text x e)) h))
      by_case (inr e) f = f e

-- ---- what leads where

module _ (ss : List (List Bind)) (all : List Item) where
  -- what needs something is declared
  declares : (x y : List ℕ) (is : List Item) → is_among y (needs_named ss all x is) ≡ true → is_among x (texts is) ≡ true
  declares x y [] h = let e : false ≡ true = h in cc
  declares x y (i ∷ is) h = by_test (bytes_eq (name_of i).text x) h (λ k. declares x y is k)
    where
      by_test : (b : Bool) → is_among y (if b then needs_of ss i else needs_named ss all x is) ≡ true → (is_among y (needs_named ss all x is) ≡ true → is_among x (texts is) ≡ true) → (b || is_among x (texts is)) ≡ true
      by_test true k f = refl
      by_test false k f = f k

  all_needs : (z y : List ℕ) (xs : List (List ℕ)) → is_among z xs ≡ true → Needs ss all z y → is_among y (needs_all ss all xs) ≡ true
  all_needs z y [] h k = let e : false ≡ true = h in cc
  all_needs z y (x ∷ xs) h k = by_case (λ f. all_needs z y xs f k) (or_either (bytes_eq x z) (is_among z xs) h)
    where
      by_case : (is_among z xs ≡ true → is_among y (needs_all ss all xs) ≡ true) → (bytes_eq x z ≡ true) ⊎ (is_among z xs ≡ true) → is_among y (needs_named ss all x all ++ needs_all ss all xs) ≡ true
      by_case f (inl e) = among_left y (needs_named ss all x all) (needs_all ss all xs) (subst (λ (v : List ℕ). Needs ss all v y) (sym (same_text x z e)) k)
      by_case f (inr e) = among_right y (needs_named ss all x all) (needs_all ss all xs) (f e)

  abbrev Behind : List (List ℕ) → List ℕ → Type 0
  Behind xs y = (x : List ℕ) × (is_among x xs ≡ true) × Needs ss all x y

  all_needed : (y : List ℕ) (xs : List (List ℕ)) → is_among y (needs_all ss all xs) ≡ true → Behind xs y
  all_needed y [] h = let e : false ≡ true = h in cc
  all_needed y (x ∷ xs) h = by_case (among_either y (needs_named ss all x all) (needs_all ss all xs) h) (λ k. all_needed y xs k)
    where
      deeper : Behind xs y → Behind (x ∷ xs) y
      deeper w = (w.0, or_second (bytes_eq x w.0) (is_among w.0 xs) w.1, w.2)

      by_case : (is_among y (needs_named ss all x all) ≡ true) ⊎ (is_among y (needs_all ss all xs) ≡ true) → (is_among y (needs_all ss all xs) ≡ true → Behind xs y) → Behind (x ∷ xs) y
      by_case (inl e) f = (x, or_first (bytes_eq x x) (is_among x xs) (own_text x), e)
      by_case (inr e) f = deeper (f e)

  -- ---- what is reached is led to

  abbrev LedTo : List (List ℕ) → List ℕ → Type 0
  LedTo xs y = (x : List ℕ) × (zs : List (List ℕ)) × (is_among x xs ≡ true) × NeedsBy ss all x zs y

  from_reached : (n : ℕ) (xs : List (List ℕ)) (y : List ℕ) → is_among y (reached ss all n xs) ≡ true → LedTo xs y
  from_reached zero xs y h = (y, [], h, refl)
  from_reached (suc n) xs y h = step (from_reached n (joined xs (needs_all ss all xs)) y h)
    where
      behind : (x : List ℕ) (zs : List (List ℕ)) → NeedsBy ss all x zs y → (is_among x xs ≡ true) ⊎ (is_among x (needs_all ss all xs) ≡ true) → LedTo xs y
      behind x zs w (inl e) = (x, zs, e, w)
      behind x zs w (inr e) = let v : Behind xs x = all_needed x xs e in (v.0, x ∷ zs, v.1, (v.2, w))

      step : LedTo (joined xs (needs_all ss all xs)) y → LedTo xs y
      step w = behind w.0 w.1 w.3 (joined_either w.0 xs (needs_all ss all xs) w.2)

  -- ---- what is led to is reached

  kept : (n : ℕ) (xs : List (List ℕ)) (y : List ℕ) → is_among y xs ≡ true → is_among y (reached ss all n xs) ≡ true
  kept zero xs y h = h
  kept (suc n) xs y h = kept n (joined xs (needs_all ss all xs)) y (joined_left y xs (needs_all ss all xs) h)

  on_way : (z : List ℕ) (zs : List (List ℕ)) (y : List ℕ) → NeedsBy ss all z zs y → is_among y (texts all) ≡ true → is_among z (texts all) ≡ true
  on_way z [] y w d = subst (λ (v : List ℕ). is_among v (texts all) ≡ true) (sym w) d
  on_way z (u ∷ us) y w d = declares z u all w.0

  -- where one more step leads to no declared name that isn't there, all that is led to is there
  module _ (xs : List (List ℕ)) (within : (x : List ℕ) → is_among x xs ≡ true → is_among x (joined xs (needs_all ss all xs)) ≡ true)
      (closed : AllThere xs (joined xs (needs_all ss all xs)) within all) where
    stays : (x : List ℕ) (zs : List (List ℕ)) (y : List ℕ) → NeedsBy ss all x zs y → is_among x xs ≡ true → is_among y (texts all) ≡ true → is_among y xs ≡ true
    stays x [] y w h d = subst (λ (v : List ℕ). is_among v xs ≡ true) w h
    stays x (z ∷ zs) y w h d =
        stays z zs y w.1 (there_of xs (joined xs (needs_all ss all xs)) within all z closed (on_way z zs y w.1 d) (joined_right z xs (needs_all ss all xs) (all_needs x z xs h w.0))) d

  to_reached : (n : ℕ) (xs : List (List ℕ)) → missing xs all ≤ n → (x : List ℕ) (zs : List (List ℕ)) (y : List ℕ) → NeedsBy ss all x zs y → is_among x xs ≡ true → is_among y (texts all) ≡ true
      → is_among y (reached ss all n xs) ≡ true
  to_reached zero xs m x zs y w h d = none_missing xs all y m d
  to_reached (suc n) xs m x zs y w h d =
      by_order (eq-or-lt_of_le (fewer xs (joined xs (needs_all ss all xs)) within all)) (λ k. to_reached n (joined xs (needs_all ss all xs)) k x zs y w (within x h) d)
    where
      within : (v : List ℕ) → is_among v xs ≡ true → is_among v (joined xs (needs_all ss all xs)) ≡ true
      within v e = joined_left v xs (needs_all ss all xs) e

      by_order : (missing (joined xs (needs_all ss all xs)) all ≡ missing xs all) ⊎ (missing (joined xs (needs_all ss all xs)) all < missing xs all)
          → (missing (joined xs (needs_all ss all xs)) all ≤ n → is_among y (reached ss all n (joined xs (needs_all ss all xs))) ≡ true) → is_among y (reached ss all n (joined xs (needs_all ss all xs))) ≡ true
      by_order (inl e) f =
          kept n (joined xs (needs_all ss all xs)) y (within y (stays xs within (no_fewer xs (joined xs (needs_all ss all xs)) within all (omega arith)) x zs y w h d))
      by_order (inr l) f = f (omega arith)

  -- ---- the law

  pub reaches : (i : Item) → is_among (name_of i).text (texts all) ≡ true → needs_named ss all (name_of i).text all ≡ needs_of ss i
      → (needs_itself ss all i ≡ true → NeedsItself ss all (name_of i).text) × (NeedsItself ss all (name_of i).text → needs_itself ss all i ≡ true)
  reaches i d e = (λ h. out (from_reached (length all) (needs_of ss i) (name_of i).text h), λ c. back c)
    where
      out : LedTo (needs_of ss i) (name_of i).text → NeedsItself ss all (name_of i).text
      out w = (w.0, w.1, subst (λ (ns : List (List ℕ)). is_among w.0 ns ≡ true) (sym e) w.2, w.3)

      back : NeedsItself ss all (name_of i).text → needs_itself ss all i ≡ true
      back c = to_reached (length all) (needs_of ss i) (few (needs_of ss i) all) c.0 c.1 (name_of i).text c.3 (subst (λ (ns : List (List ℕ)). is_among c.0 ns ≡ true) e c.2) d

pub reaches_itself : ReachesItself
reaches_itself ss all i d e = reaches ss all i d e
