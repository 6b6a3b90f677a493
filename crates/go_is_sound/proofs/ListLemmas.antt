-- Lists by their places.
use Rattle.std.proofs.Common.{◌⊎◌, inl, inr, refl, sym, ap, ◌∙◌, subst, arith, append_assoc}
use Rattle.std.specs.Prelude.{◌≡◌, ◌<◌, ◌+◌, ℕ, zero, suc, List, [], ◌∷◌, ◌++◌, length, map, drop, get_or, Bool, true, Option, Some, None, Result, Ok, Err, IfOk, IfSome, slice_get, Contains, All, AllPairs}
use Rattle.std.specs.List.{AllByRecursion}
use Rattle.std.proofs.Math.ListN.{set}
use Rattle.std.proofs.lemmas.List.{map-append, length-map, drop_more}
use Rattle.std.proofs.lemmas.List.Elements.{All-from_recursion, All-map, Contains-append_right}
use Rattle.std.proofs.lemmas.List.Kept.{AllPairs-cons}
use Rattle.std.proofs.lemmas.Option.{slice_get-get_or}
use Rattle.go_sound_parts.proofs.RowLemmas.{got_of_map}

pub some_one : {A : Type 0} (x y : A) → Some x ≡ Some y → x ≡ y
some_one x y h = cc

-- what a list contains stands at a place
pub got_of_contains : {A : Type 0} (xs : List A) (x : A) → Contains xs x → (k : ℕ) × (slice_get xs k ≡ Some x)
got_of_contains {A} xs x c = (c.0, slice_get-get_or xs c.0 x c.1 ∙ ap (λ (y : A). Some y) c.2)

pub contains_of_map : {A B : Type 0} (f : A → B) (xs : List A) (y : B) → Contains (map f xs) y → (x : A) × (k : ℕ) × (slice_get xs k ≡ Some x) × (f x ≡ y)
contains_of_map f xs y c =
    let g = got_of_contains (map f xs) y c in
    let h = got_of_map f xs g.0 y g.1 in
    (h.0, g.0, h.1, h.2)

pub later : {A : Type 0} (x y : A) (xs : List A) → Contains xs y → Contains (x ∷ xs) y
later x y xs c = Contains-append_right (x ∷ []) xs y c

-- what stands at a place is in the list, and at that place of a mapped one
pub contains_got : {A : Type 0} (xs : List A) (k : ℕ) (x : A) → slice_get xs k ≡ Some x → Contains xs x
contains_got [] k x h = absurd (cc)
contains_got (z ∷ zs) zero x h = (0, omega arith, some_one z x h)
contains_got (z ∷ zs) (suc k) x h = later z x zs (contains_got zs k x h)

pub got_mapped : {A B : Type 0} (f : A → B) (xs : List A) (k : ℕ) (x : A) → slice_get xs k ≡ Some x → slice_get (map f xs) k ≡ Some (f x)
got_mapped {A} {B} f [] k x h = absurd (cc)
got_mapped {A} {B} f (z ∷ zs) zero x h = ap (λ (y : A). Some (f y)) (some_one z x h)
got_mapped {A} {B} f (z ∷ zs) (suc k) x h = got_mapped f zs k x h

-- after one mark is set
pub got_set : (marks : List Bool) (at i : ℕ) → slice_get (set marks at true) i ≡ Some true → (i ≡ at) ⊎ (slice_get marks i ≡ Some true)
got_set [] at i h = inr h
got_set (b ∷ bs) zero zero h = inl refl
got_set (b ∷ bs) zero (suc i) h = inr h
got_set (b ∷ bs) (suc at) zero h = inr h
got_set (b ∷ bs) (suc at) (suc i) h = one_more (got_set bs at i h)
  where
    one_more : (i ≡ at) ⊎ (slice_get bs i ≡ Some true) → (suc i ≡ suc at) ⊎ (slice_get bs i ≡ Some true)
    one_more (inl e) = inl (ap suc e)
    one_more (inr g) = inr g

pub each_got : {A : Type 0} (P : A → Type 0) (xs : List A) (k : ℕ) (x : A) → AllByRecursion P xs → slice_get xs k ≡ Some x → P x
each_got P [] k x h e = absurd (cc)
each_got P (z ∷ zs) zero x h e = subst P (some_one z x e) h.0
each_got P (z ∷ zs) (suc k) x h e = each_got P zs k x h.1 e

pub each_there : {A : Type 0} (P : A → Type 0) (xs : List A) (x : A) → AllByRecursion P xs → Contains xs x → P x
each_there P xs x h c = let g = got_of_contains xs x c in each_got P xs g.0 x h g.1

-- where each element has it, so have those of the mapped list
pub all_mapped : {A B : Type 0} (P : B → Type 0) (f : A → B) (xs : List A) → AllByRecursion (λ (x : A). P (f x)) xs → All P (map f xs)
all_mapped P f xs h = All-map P f xs (All-from_recursion (λ x. P (f x)) xs h)

pub pairs_cons : {A B : Type 0} (R : B → B → Type 0) (f : A → B) (x : A) (xs : List A) → AllByRecursion (λ (y : A). R (f x) (f y)) xs → AllPairs R (map f xs) → AllPairs R (map f (x ∷ xs))
pairs_cons R f x xs h k = AllPairs-cons R (f x) (map f xs) (all_mapped (R (f x)) f xs h) k

-- two places of a list with different elements
pub pairs_got : {A B : Type 0} (R : B → B → Type 0) (f : A → B) (xs : List A)
    → ((i j : ℕ) (x y : A) → i < j → slice_get xs i ≡ Some x → slice_get xs j ≡ Some y → R (f x) (f y)) → AllPairs R (map f xs)
pairs_got {A} {B} R f xs h i j d l m =
    let n : length (map f xs) ≡ length xs = length-map xs f in
    let a = got_of_map f xs i (get_or (map f xs) i d) (slice_get-get_or (map f xs) i d (omega arith)) in
    let b = got_of_map f xs j (get_or (map f xs) j d) (slice_get-get_or (map f xs) j d m) in
    subst (λ (y : B). R (get_or (map f xs) i d) y) b.2 (subst (λ (x : B). R x (f b.0)) a.2 (h i j a.0 b.0 l a.1 b.1))

-- a list that comes after what is there, each element mapped
pub onto_mapped : {A B : Type 0} (f : A → B) (xs ys : List A) (zs : List B) → map f (xs ++ ys) ++ zs ≡ map f xs ++ (map f ys ++ zs)
onto_mapped {A} {B} f xs ys zs = ap (λ (us : List B). us ++ zs) (map-append f xs ys) ∙ append_assoc (map f xs) (map f ys) zs

-- what follows from a yes
pub yes_then : {E : Type 0} (r : Result Bool E) (A B : Type 0) → (A → B) → IfOk r (λ b. b ≡ true → A) → IfOk r (λ b. b ≡ true → B)
yes_then (Ok b) A B f h = λ e. f (h e)
yes_then (Err x) A B f h = tt

pub here : {A : Type 0} (x : A) (xs : List A) → Contains (x ∷ xs) x
here x xs = (0, omega arith, refl)

-- the first of a list differs from the others, and these from each other
pub pairs_more : {A B : Type 0} (R : B → B → Type 0) (f : A → B) (xs : List A) (x : A) (others : List A) → xs ≡ x ∷ others
    → AllByRecursion (λ (y : A). R (f x) (f y)) others → AllPairs R (map f others) → AllPairs R (map f xs)
pairs_more {A} {B} R f xs x others e h k = subst (λ (ys : List A). AllPairs R (map f ys)) (sym e) (pairs_cons R f x others h k)

-- the element at a place, and those after it
pub next_at : {A : Type 0} (xs : List A) (i : ℕ) (x : A) → i < length xs → x ≡ get_or xs i x → drop i xs ≡ x ∷ drop (i + 1) xs
next_at {A} xs i x l e = drop_more xs i x l ∙ ap (λ (y : A). y ∷ drop (i + 1) xs) (sym e)

pub some_then : {A : Type 0} (P Q : A → Type 0) (o : Option A) → ((a : A) → P a → Q a) → IfSome o P → IfSome o Q
some_then P Q None f h = tt
some_then P Q (Some a) f h = f a h
