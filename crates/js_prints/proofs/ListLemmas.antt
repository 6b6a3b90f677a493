-- What `get` finds in a list, and lists that are gone through one by one.
use Rattle.std.proofs.Common.{arith, ◌≡◌, ◌<◌, ◌≤◌, ◌+◌, ℕ, zero, suc, ◌∙◌, refl, sym, ap, List, [], ◌∷◌, length, take, drop, map, get_or, ◌-◌}
use Rattle.std.specs.Prelude.{Option, Some, None, option_map, slice_get}
use Rattle.std.proofs.lemmas.Option.{slice_get-map, slice_get_read, slice_get_past}
use Rattle.std.proofs.Math.Seq.{drop-cons}
use Rattle.std.specs.Borrow.{Bor}
use Rattle.std.specs.Slice.{IsItemAt}

pub item_seen : {X Y : Type 0} (f : X → Y) (ys xs : List X) (i : ℕ) (x : Bor X) → ys ≡ xs → IsItemAt ys i (Some x) → slice_get (map f xs) i ≡ Some (f x.now)
item_seen {X} {Y} f ys xs i x e h =
    slice_get-map f xs i ∙ ap (λ (zs : List X). option_map f (slice_get zs i)) (sym e) ∙ ap (λ (o : Option X). option_map f o) (slice_get_read ys (length ys) i x.now refl h.3.0 h.1)

pub none_seen : {X Y : Type 0} (f : X → Y) (ys xs : List X) (i : ℕ) → ys ≡ xs → IsItemAt ys i None → slice_get (map f xs) i ≡ None
none_seen {X} {Y} f ys xs i e h =
    slice_get-map f xs i ∙ ap (λ (zs : List X). option_map f (slice_get zs i)) (sym e) ∙ ap (λ (o : Option X). option_map f o) (slice_get_past ys i h.3)

pub next_at : {X Y : Type 0} (f : X → Y) (xs : List X) (i : ℕ) (x : X) → i < length xs → x ≡ get_or xs i x → map f (drop i xs) ≡ f x ∷ map f (drop (i + 1) xs)
next_at {X} {Y} f xs i x h e =
    let one : suc i ≡ i + 1 = omega arith in
    ap (map f) (drop-cons xs i x h)
    ∙ ap (λ (y : X). f y ∷ map f (drop (suc i) xs)) (sym e)
    ∙ ap (λ (n : ℕ). f x ∷ map f (drop n xs)) one

pub none_left : {X : Type 0} (xs : List X) (i : ℕ) → length xs ≤ i → drop i xs ≡ []
none_left [] zero h = refl
none_left [] (suc i) h = refl
none_left (x ∷ xs) zero h = absurd (omega (arith, h))
none_left (x ∷ xs) (suc i) h = none_left xs i (omega (arith, h))

take-length : {X : Type 0} (xs : List X) → take (length xs) xs ≡ xs
take-length [] = refl
take-length {X} (x ∷ xs) = ap (λ (ys : List X). x ∷ ys) (take-length xs)

pub others_of : {X : Type 0} (xs : List X) (x : X) → 1 ≤ length xs → x ≡ get_or xs 0 x → xs ≡ x ∷ take (length xs - 1) (drop 1 xs)
others_of [] x h e = absurd (omega (arith, h))
others_of {X} (y ∷ ys) x h e =
    let count : length (y ∷ ys) - 1 ≡ length ys = omega arith in
    ap (λ (z : X). z ∷ ys) (sym e) ∙ ap (λ (zs : List X). x ∷ zs) (sym (take-length ys) ∙ ap (λ (n : ℕ). take n ys) (sym count))

pub left_at : {X : Type 0} (xs : List X) (i : ℕ) (x : X) → i < length xs → x ≡ get_or xs i x → drop i xs ≡ x ∷ drop (i + 1) xs
left_at {X} xs i x h e =
    let one : suc i ≡ i + 1 = omega arith in
    drop-cons xs i x h ∙ ap (λ (y : X). y ∷ drop (suc i) xs) (sym e) ∙ ap (λ (n : ℕ). x ∷ drop n xs) one
