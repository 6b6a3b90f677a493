-- Names in lists.
use Rattle.std.proofs.Common.{arith, ◌≡◌, ◌⊎◌, inl, inr, ◌||◌, ℕ, List, [], ◌∷◌, ◌++◌, refl, subst, Bool, true, false, if◌then◌else◌, bytes_eq}
use Rattle.std.proofs.lemmas.Slice.Eq.{bytes_eq-Decides}
use Rattle.go_typing.specs.Cycles.{is_among, joined}

pub same_text : (x y : List ℕ) → bytes_eq x y ≡ true → x ≡ y
same_text x y h = grind (arith, bytes_eq-Decides)

pub own_text : (x : List ℕ) → bytes_eq x x ≡ true
own_text x = grind (arith, bytes_eq-Decides)

pub or_either : (b c : Bool) → (b || c) ≡ true → (b ≡ true) ⊎ (c ≡ true)
or_either true c h = inl refl
or_either false c h = inr h

pub or_second : (b c : Bool) → c ≡ true → (b || c) ≡ true
or_second true c h = refl
or_second false c h = h

pub or_first : (b c : Bool) → b ≡ true → (b || c) ≡ true
or_first true c h = refl
or_first false c h = let e : false ≡ true = h in cc

pub among_left : (x : List ℕ) (xs ys : List (List ℕ)) → is_among x xs ≡ true → is_among x (xs ++ ys) ≡ true
among_left x [] ys h = let e : false ≡ true = h in cc
among_left x (z ∷ xs) ys h = by_case (λ k. among_left x xs ys k) (or_either (bytes_eq z x) (is_among x xs) h)
  where
    by_case : (is_among x xs ≡ true → is_among x (xs ++ ys) ≡ true) → (bytes_eq z x ≡ true) ⊎ (is_among x xs ≡ true) → (bytes_eq z x || is_among x (xs ++ ys)) ≡ true
    by_case f (inl e) = or_first (bytes_eq z x) (is_among x (xs ++ ys)) e
    by_case f (inr e) = or_second (bytes_eq z x) (is_among x (xs ++ ys)) (f e)

pub among_right : (x : List ℕ) (xs ys : List (List ℕ)) → is_among x ys ≡ true → is_among x (xs ++ ys) ≡ true
among_right x [] ys h = h
among_right x (z ∷ xs) ys h = or_second (bytes_eq z x) (is_among x (xs ++ ys)) (among_right x xs ys h)

pub among_either : (x : List ℕ) (xs ys : List (List ℕ)) → is_among x (xs ++ ys) ≡ true → (is_among x xs ≡ true) ⊎ (is_among x ys ≡ true)
among_either x [] ys h = inr h
among_either x (z ∷ xs) ys h = by_case (or_either (bytes_eq z x) (is_among x (xs ++ ys)) h) (λ k. among_either x xs ys k)
  where
    by_rest : (is_among x xs ≡ true) ⊎ (is_among x ys ≡ true) → ((bytes_eq z x || is_among x xs) ≡ true) ⊎ (is_among x ys ≡ true)
    by_rest (inl e) = inl (or_second (bytes_eq z x) (is_among x xs) e)
    by_rest (inr e) = inr e

    by_case : (bytes_eq z x ≡ true) ⊎ (is_among x (xs ++ ys) ≡ true) → (is_among x (xs ++ ys) ≡ true → (is_among x xs ≡ true) ⊎ (is_among x ys ≡ true))
        → ((bytes_eq z x || is_among x xs) ≡ true) ⊎ (is_among x ys ≡ true)
    by_case (inl e) f = inl (or_first (bytes_eq z x) (is_among x xs) e)
    by_case (inr e) f = by_rest (f e)

among_if : (x : List ℕ) (c : Bool) (xs ys : List (List ℕ)) → is_among x xs ≡ true → is_among x ys ≡ true → is_among x (if c then xs else ys) ≡ true
among_if x true xs ys h k = h
among_if x false xs ys h k = k

pub joined_left : (x : List ℕ) (xs ys : List (List ℕ)) → is_among x xs ≡ true → is_among x (joined xs ys) ≡ true
joined_left x xs [] h = h
joined_left x xs (y ∷ ys) h = joined_left x (if is_among y xs then xs else xs ++ y ∷ []) ys (among_if x (is_among y xs) xs (xs ++ y ∷ []) h (among_left x xs (y ∷ []) h))

pub joined_right : (x : List ℕ) (xs ys : List (List ℕ)) → is_among x ys ≡ true → is_among x (joined xs ys) ≡ true
joined_right x xs [] h = let e : false ≡ true = h in cc
joined_right x xs (y ∷ ys) h =
    by_case (or_either (bytes_eq y x) (is_among x ys) h) (λ k. joined_right x (if is_among y xs then xs else xs ++ y ∷ []) ys k)
  where
    there : bytes_eq y x ≡ true → (c : Bool) → is_among y xs ≡ c → is_among x (if c then xs else xs ++ y ∷ []) ≡ true
    there e true f = subst (λ (z : List ℕ). is_among z xs ≡ true) (same_text y x e) f
    there e false f = among_right x xs (y ∷ []) (or_first (bytes_eq y x) false e)

    by_case : (bytes_eq y x ≡ true) ⊎ (is_among x ys ≡ true) → (is_among x ys ≡ true → is_among x (joined (if is_among y xs then xs else xs ++ y ∷ []) ys) ≡ true) → is_among x (joined (if is_among y xs then xs else xs ++ y ∷ []) ys) ≡ true
    by_case (inl e) f = joined_left x (if is_among y xs then xs else xs ++ y ∷ []) ys (there e (is_among y xs) refl)
    by_case (inr e) f = f e

pub joined_either : (x : List ℕ) (xs ys : List (List ℕ)) → is_among x (joined xs ys) ≡ true → (is_among x xs ≡ true) ⊎ (is_among x ys ≡ true)
joined_either x xs [] h = inl h
joined_either x xs (y ∷ ys) h = by_case (joined_either x (if is_among y xs then xs else xs ++ y ∷ []) ys h)
  where
    one : (bytes_eq y x ≡ true) ⊎ (false ≡ true) → (bytes_eq y x || is_among x ys) ≡ true
    one (inl e) = or_first (bytes_eq y x) (is_among x ys) e
    one (inr e) = cc

    last : (is_among x xs ≡ true) ⊎ ((bytes_eq y x || false) ≡ true) → (is_among x xs ≡ true) ⊎ ((bytes_eq y x || is_among x ys) ≡ true)
    last (inl e) = inl e
    last (inr e) = inr (one (or_either (bytes_eq y x) false e))

    there : (c : Bool) → is_among x (if c then xs else xs ++ y ∷ []) ≡ true → (is_among x xs ≡ true) ⊎ ((bytes_eq y x || is_among x ys) ≡ true)
    there true e = inl e
    there false e = last (among_either x xs (y ∷ []) e)

    by_case : (is_among x (if is_among y xs then xs else xs ++ y ∷ []) ≡ true) ⊎ (is_among x ys ≡ true) → (is_among x xs ≡ true) ⊎ ((bytes_eq y x || is_among x ys) ≡ true)
    by_case (inl e) = there (is_among y xs) e
    by_case (inr e) = inr (or_second (bytes_eq y x) (is_among x ys) e)
