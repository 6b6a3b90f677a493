-- Lists that are gone over from the front.
use Rattle.std.proofs.Common.{refl, sym, ap, ◌∙◌, arith}
use Rattle.std.specs.Prelude.{◌≡◌, ◌<◌, ℕ, suc, ◌+◌, List, [], ◌∷◌, ◌++◌, length, take, drop, get_or, map, slice_set, slice_get, remove, Option, Some, None, option_map}
use Rattle.std.proofs.lemmas.List.{drop_more, take_more, take-append-drop, take-set, drop-set, map-append}
use Rattle.std.proofs.lemmas.Option.{slice_get-get_or, slice_get-map, slice_get_read, slice_get_past}
use Rattle.std.specs.List.{drop-map, take-map}
use Rattle.std.specs.Borrow.{Bor}
use Rattle.std.specs.Slice.{IsItemAt}
use Rattle.go_values.specs.declared.values.memory.Entry.{Entry}
use Rattle.go_slices.proofs.SlicesListLemmas.{nothing}

-- what a proof reads past the end of a list
abbrev pub no_entry : Entry
no_entry = record { key = nothing; value = nothing; birth = 0 }

module _ {A : Type 0} where
  pub split : (xs : List A) (i : ℕ) (x d : A) → i < length xs → x ≡ get_or xs i d → drop i xs ≡ x ∷ drop (i + 1) xs
  split xs i x d h e = drop_more xs i d h ∙ ap (λ (y : A). y ∷ drop (i + 1) xs) (sym e)

  pub grown : (xs : List A) (i : ℕ) (x d : A) → i < length xs → x ≡ get_or xs i d → take (i + 1) xs ≡ take i xs ++ x ∷ []
  grown xs i x d h e = take_more xs i d h ∙ ap (λ (y : A). take i xs ++ y ∷ []) (sym e)

  pub set_apart : (xs : List A) (i : ℕ) (x : A) → i < length xs → slice_set xs i x ≡ take i xs ++ x ∷ drop (i + 1) xs
  set_apart xs i x h =
      sym (take-append-drop i (slice_set xs i x))
      ∙ ap (λ (ys : List A). ys ++ drop i (slice_set xs i x)) (take-set xs i x)
      ∙ ap (λ (ys : List A). take i xs ++ ys) (drop-set xs i x h)

pub split_map : {A B : Type 0} (f : A → B) (xs : List A) (i : ℕ) (x d : A) → i < length xs → x ≡ get_or xs i d → drop i (map f xs) ≡ f x ∷ drop (i + 1) (map f xs)
split_map {A} {B} f xs i x d h e =
    drop-map f i xs
    ∙ ap (map f) (split xs i x d h e)
    ∙ ap (λ (ys : List B). f x ∷ ys) (sym (drop-map f (i + 1) xs))

pub grown_map : {A B : Type 0} (f : A → B) (xs : List A) (i : ℕ) (x d : A) → i < length xs → x ≡ get_or xs i d → take (i + 1) (map f xs) ≡ take i (map f xs) ++ f x ∷ []
grown_map {A} {B} f xs i x d h e =
    take-map f (i + 1) xs
    ∙ ap (map f) (grown xs i x d h e)
    ∙ map-append f (take i xs) (x ∷ [])
    ∙ ap (λ (ys : List B). ys ++ f x ∷ []) (sym (take-map f i xs))

pub there_map : {A B : Type 0} (f : A → B) (xs : List A) (i : ℕ) (x d : A) → i < length xs → x ≡ get_or xs i d → slice_get (map f xs) i ≡ Some (f x)
there_map {A} {B} f xs i x d h e =
    slice_get-map f xs i
    ∙ ap (λ (o : Option A). option_map f o) (slice_get-get_or xs i d h ∙ ap (λ (y : A). Some y) (sym e))

-- ---- what `get` finds

pub item_there : {X : Type 0} (xs : List X) (i : ℕ) (x : Bor X) → IsItemAt xs i (Some x) → slice_get xs i ≡ Some x.now
item_there {X} xs i x h = slice_get_read xs (length xs) i x.now refl h.3.0 h.1

pub item_none : {X : Type 0} (xs : List X) (i : ℕ) → IsItemAt xs i None → slice_get xs i ≡ None
item_none {X} xs i h = slice_get_past xs i h.3

pub item_seen : {X Y : Type 0} (f : X → Y) (ys xs : List X) (i : ℕ) (x : Bor X) → ys ≡ xs → IsItemAt ys i (Some x) → slice_get (map f xs) i ≡ Some (f x.now)
item_seen {X} {Y} f ys xs i x e h =
    slice_get-map f xs i ∙ ap (λ (zs : List X). option_map f (slice_get zs i)) (sym e) ∙ ap (λ (o : Option X). option_map f o) (item_there ys i x h)

pub none_seen : {X Y : Type 0} (f : X → Y) (ys xs : List X) (i : ℕ) → ys ≡ xs → IsItemAt ys i None → slice_get (map f xs) i ≡ None
none_seen {X} {Y} f ys xs i e h =
    slice_get-map f xs i ∙ ap (λ (zs : List X). option_map f (slice_get zs i)) (sym e) ∙ ap (λ (o : Option X). option_map f o) (item_none ys i h)

pub got_seen : {X Y : Type 0} (f : X → Y) (ys xs : List X) (i : ℕ) (r : Option (Bor X)) → ys ≡ xs → IsItemAt ys i r → option_map (λ (x : Bor X). f x.now) r ≡ slice_get (map f xs) i
got_seen {X} {Y} f ys xs i None e h = sym (none_seen f ys xs i e h)
got_seen {X} {Y} f ys xs i (Some x) e h = sym (item_seen f ys xs i x e h)

pub map_remove : {X Y : Type 0} (f : X → Y) (xs : List X) (i : ℕ) → map f (remove xs i) ≡ remove (map f xs) i
map_remove {X} {Y} f xs i =
    map-append f (take i xs) (drop (suc i) xs)
    ∙ ap (λ (ys : List Y). ys ++ map f (drop (suc i) xs)) (sym (take-map f i xs))
    ∙ ap (λ (ys : List Y). take i (map f xs) ++ ys) (sym (drop-map f (suc i) xs))

pub two_apart : {A B : Type 0} (f : A → B) (xs : List A) (i j k : ℕ) (d : A) → i + 1 < length xs → j ≡ i + 1 → k ≡ j + 1
    → map f (drop i xs) ≡ f (get_or xs i d) ∷ f (get_or xs j d) ∷ map f (drop k xs)
two_apart {A} {B} f xs i j k d h e g =
    ap (map f) (drop_more xs i d (omega (arith, h)))
    ∙ ap (λ (n : ℕ). f (get_or xs i d) ∷ map f (drop n xs)) (sym e)
    ∙ ap (λ (ys : List A). f (get_or xs i d) ∷ map f ys) (drop_more xs j d (omega (arith, h, e)))
    ∙ ap (λ (n : ℕ). f (get_or xs i d) ∷ f (get_or xs j d) ∷ map f (drop n xs)) (sym g)
