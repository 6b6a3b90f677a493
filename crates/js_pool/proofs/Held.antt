-- What a part of a table holds is one list.
use Rattle.std.proofs.Common.{◌≡◌, ℕ, suc, zero, List, [], ◌∷◌, ◌++◌, take, drop, ◌+◌, ◌-◌, ◌≤◌, ◌<◌, min, length, length-take, length-drop, Some, None, refl, sym, ◌∙◌, ap, arith, ap₂}
use Rattle.std.specs.List.{slice_get}
use Rattle.js_pool.specs.Stands.{HeldAt}

none_some : {A : Type 0} {x : A} → None ≡ Some x → ⊥
none_some e = absurd (cc)

some_is : {A : Type 0} {x y : A} → Some x ≡ Some y → x ≡ y
some_is e = cc

front : {A : Type 0} (xs ys : List A) → ((i : ℕ) (x : A) → slice_get xs i ≡ Some x → slice_get ys i ≡ Some x) → take (length xs) ys ≡ xs
front [] ys h = refl
front (x ∷ xs) [] h = absurd (none_some (h 0 x refl))
front (x ∷ xs) (y ∷ ys) h =
    let e : y ≡ x = some_is (h 0 x refl) in
    let r : take (length xs) ys ≡ xs = front xs ys (λ i z g. h (suc i) z g) in
    ap₂ (λ a b. a ∷ b) e r

get_drop : {A : Type 0} (xs : List A) (n i : ℕ) → slice_get (drop n xs) i ≡ slice_get xs (n + i)
get_drop xs zero i = let e : 0 + i ≡ i = omega arith in rw e refl
get_drop [] (suc n) i = refl
get_drop (x ∷ xs) (suc n) i = let e : suc n + i ≡ suc (n + i) = omega arith in rw e (get_drop xs n i)

take_get : {A : Type 0} (xs : List A) (n i : ℕ) (x : A) → slice_get (take n xs) i ≡ Some x → slice_get xs i ≡ Some x
take_get xs zero i x h = absurd (none_some h)
take_get [] (suc n) i x h = h
take_get (y ∷ xs) (suc n) zero x h = h
take_get (y ∷ xs) (suc n) (suc i) x h = take_get xs n i x h

pub get_below : {A : Type 0} (xs : List A) (i : ℕ) (x : A) → slice_get xs i ≡ Some x → i < length xs
get_below [] i x h = absurd (none_some h)
get_below (y ∷ xs) zero x h = omega arith
get_below (y ∷ xs) (suc i) x h = omega (arith, get_below xs i x h)

abbrev last_of : {A : Type 0} → A → List A → A
last_of x [] = x
last_of x (y ∷ xs) = last_of y xs

last_get : {A : Type 0} (x : A) (xs : List A) → slice_get (x ∷ xs) (length xs) ≡ Some (last_of x xs)
last_get x [] = refl
last_get x (y ∷ xs) = last_get y xs

pub held_take : {A : Type 0} (table xs : List A) (from many : ℕ) → HeldAt table from many xs → take many (drop from table) ≡ xs
held_take table xs from many h =
    let e : take (length xs) (drop from table) ≡ xs = front xs (drop from table) (λ i x g. get_drop table from i ∙ h.each i x g) in
    rw (← h.all) e

-- so two of one part are the same
pub held_only : {A : Type 0} (table xs ys : List A) (from many : ℕ) → HeldAt table from many xs → HeldAt table from many ys → xs ≡ ys
held_only table xs ys from many h k = sym (held_take table xs from many h) ∙ held_take table ys from many k

not_zero : {n : ℕ} → suc n ≡ 0 → ⊥
not_zero e = omega (arith, e)

held_ends : {A : Type 0} (table xs : List A) (from many : ℕ) → HeldAt table from many xs → (many ≡ 0 → ⊥) → from + many ≤ length table
held_ends table [] from many h n = absurd (n (sym h.all))
held_ends table (x ∷ xs) from many h n =
    let a : suc (length xs) ≡ many = h.all in
    let l : from + length xs < length table = get_below table (from + length xs) _ (h.each (length xs) _ (last_get x xs)) in
    omega arith

-- a part that a list holds is what stands there
pub part_is : {A : Type 0} (table xs : List A) (from many f m : ℕ) → f ≡ min from (length table) → m ≡ min many (length table - f) → HeldAt table from many xs → take m (drop f table) ≡ xs
part_is table [] from many f m e g h =
    let a : 0 ≡ many = h.all in
    let z : m ≡ 0 = omega arith in
    rw z refl
part_is table (x ∷ xs) from many f m e g h =
    let a : suc (length xs) ≡ many = h.all in
    let n : many ≡ 0 → ⊥ = λ z. not_zero (a ∙ z) in
    let l : from + many ≤ length table = held_ends table (x ∷ xs) from many h n in
    let i : f ≡ from = omega arith in
    let j : m ≡ many = omega arith in
    rw (i, j) (held_take table (x ∷ xs) from many h)

-- a part within a list is held there
pub range_held : {A : Type 0} (table : List A) (from many : ℕ) → from + many ≤ length table → HeldAt table from many (take many (drop from table))
range_held table from many h = record {
  all = (let a : length (take many (drop from table)) ≡ min many (length (drop from table)) = length-take many (drop from table) in
      let b : length (drop from table) ≡ length table - from = length-drop from table in
      omega arith);
  each = λ i x g. sym (get_drop table from i) ∙ take_get (drop from table) many i x g;
}

take_suc : {A : Type 0} (xs : List A) (i : ℕ) (x : A) → slice_get xs i ≡ Some x → take (suc i) xs ≡ take i xs ++ x ∷ []
take_suc [] i x h = absurd (none_some h)
take_suc (y ∷ xs) zero x h = ap (λ z. z ∷ []) (some_is h)
take_suc (y ∷ xs) (suc i) x h = ap (λ zs. y ∷ zs) (take_suc xs i x h)

-- a part of a list up to an element, and the element
pub take_more : {A : Type 0} (xs : List A) (i : ℕ) (x : A) → slice_get xs i ≡ Some x → take (i + 1) xs ≡ take i xs ++ x ∷ []
take_more xs i x h = let e : i + 1 ≡ suc i = omega arith in rw e (take_suc xs i x h)
