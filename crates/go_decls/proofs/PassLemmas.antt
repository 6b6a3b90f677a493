-- Declarations that are typed one after the other, and those that are left.
use Rattle.std.proofs.Common.{arith, ◌≡◌, ◌<◌, ◌≤◌, ◌⊎◌, inl, inr, ◌∙◌, ◌+◌, ℕ, zero, suc, List, [], ◌∷◌, ◌++◌, length, map, drop, get_or, refl, sym, subst, ap, Bool, true, false}
use Rattle.std.specs.Prelude.{IsTrue, if◌then◌else◌}
use Rattle.std.proofs.Math.Seq.{drop-cons}
use Rattle.go_syntax.specs.Tree as t
use Rattle.go_typing.specs.Env.{unknown}
use Rattle.go_typing.specs.Scopes.{Env}
use Rattle.go_typing.specs.Items.{Item}
use Rattle.go_typing.specs.Known.{Known, decl_of}
use Rattle.go_walk.specs.declared.sets.numbers.NameMap.{NameMap}
use Rattle.go_items.specs.Leads.{first_number}
use Rattle.go_sound.specs.Rows.{Row, unset_rows, items_in, known_by, typed_at, one_typed, rows_after}
use Rattle.go_sound.proofs.RowLemmas.{unset_items, typed_items}
use Rattle.go_items.specs.Stands.{Stands, IsRow}
use Rattle.go_decls.specs.Before.{Before, Outcome}
use Rattle.go_decls.proofs.KnownSteps.{past}
use Rattle.go_decls.specs.State.{Named, rows_of, Reached, CantBeTyped, Turned, Has, IsUntyped, Passed}

-- ---- rows by their numbers

after_items : (ns : List ℕ) (rs : List Row) → items_in (rows_after ns rs) ≡ items_in rs
after_items [] rs = refl
after_items (n ∷ ns) rs = after_items ns (one_typed n rs) ∙ typed_items (known_by rs) n rs

pub items_are : (is : List Item) (ns : List ℕ) → items_in (rows_of is ns) ≡ is
items_are is ns = after_items ns (unset_rows is) ∙ unset_items is

one_after : (ns : List ℕ) (n : ℕ) (rs : List Row) → rows_after (ns ++ n ∷ []) rs ≡ one_typed n (rows_after ns rs)
one_after [] n rs = refl
one_after (m ∷ ns) n rs = one_after ns n (one_typed m rs)

heads : (i j : Item) (is js : List Item) → i ∷ is ≡ j ∷ js → i ≡ j
heads i j is js h = cc

tails : (i j : Item) (is js : List Item) → i ∷ is ≡ j ∷ js → is ≡ js
tails i j is js h = cc

row_is : {X : Type 0} (f : X → Item) (rs : List Row) (xs : List X) (n : ℕ) (x : X) → items_in rs ≡ map f xs → n < length xs → x ≡ get_or xs n x → IsRow rs n (f x)
row_is f rs [] n x h l e = absurd (omega arith)
row_is f [] (y ∷ xs) n x h l e = let q : [] ≡ f y ∷ map f xs = h in absurd (cc)
row_is f (r ∷ rs) (y ∷ xs) zero x h l e = heads r.item (f y) (items_in rs) (map f xs) h ∙ ap f (sym e)
row_is f (r ∷ rs) (y ∷ xs) (suc n) x h l e = row_is f rs xs n x (tails r.item (f y) (items_in rs) (map f xs) h) (omega arith) e

one_row : (rs : List Row) (n : ℕ) (i j : Item) → IsRow rs n i → IsRow rs n j → i ≡ j
one_row [] n i j h k = absurd h
one_row (r ∷ rs) zero i j h k = sym h ∙ k
one_row (r ∷ rs) (suc n) i j h k = one_row rs n i j h k

no_row : (rs : List Row) (n : ℕ) (i : Item) → length (items_in rs) ≤ n → IsRow rs n i → ⊥
no_row [] n i l h = h
no_row (r ∷ rs) zero i l h = omega arith
no_row (r ∷ rs) (suc n) i l h = no_row rs n i (omega arith) h

-- ---- one declaration

mapped : {X Y : Type 0} (f : X → Y) (xs : List X) → length (map f xs) ≡ length xs
mapped f [] = refl
mapped f (x ∷ xs) = ap suc (mapped f xs)

pub before : {X : Type 0} (f : X → Item) (ds : List t.Decl) (xs : List X) (numbers : NameMap) (ns : List ℕ) (n : ℕ) (x : X) (e : Env) → Named ds (map f xs) numbers → n < length xs → x ≡ get_or xs n x → Reached (map f xs) ns e
    → Before (rows_of (map f xs) ns) n (f x) numbers e
before f ds xs numbers ns n x e h l q s = record {
  decls = ds;
  items = items_are (map f xs) ns ∙ h.items;
  row = row_is f (rows_of (map f xs) ns) xs n x (items_are (map f xs) ns) l q;
  names = λ y. h.first y ∙ ap (first_number y) (sym (items_are (map f xs) ns));
  stands = s;
}

pub turned : (t : Bool) (is : List Item) (ns : List ℕ) (n : ℕ) (i : Item) (f : Env) → IsRow (rows_of is ns) n i → Outcome t (rows_of is ns) n i f → Turned t is ns n f
turned true is ns n i f r h = (i, r, h.0, h.1)
turned false is ns n i f r h = (λ j k. subst (λ (y : Item). decl_of (known_by (rows_of is ns)) y ≡ unknown) (one_row (rows_of is ns) n i j r k) h.0, h.1)

pub turned_past : {X : Type 0} (g : X → Item) (xs : List X) (ns : List ℕ) (n : ℕ) (f : Env) → length xs ≤ n → Reached (map g xs) ns f → Turned false (map g xs) ns n f
turned_past g xs ns n f l h =
    let a = mapped g xs in
    let c : length (items_in (rows_of (map g xs) ns)) ≡ length (map g xs) = ap length (items_are (map g xs) ns) in
    (λ j k. absurd (no_row (rows_of (map g xs) ns) n j (omega arith) k), h)

-- ---- those that aren't typed

typed_untyped : (k : Known) (rs : List Row) (n m : ℕ) (i : Item) → IsRow rs n i → (decl_of k i ≡ unknown → ⊥) → IsUntyped (typed_at k n rs) m → IsUntyped rs m × (n ≡ m → ⊥)
typed_untyped k [] n m i r d h = absurd r
typed_untyped k (r ∷ rs) zero zero i q d h = absurd (d (ap (decl_of k) (sym q) ∙ h))
typed_untyped k (r ∷ rs) zero (suc m) i q d h = (h, λ e. omega arith)
typed_untyped k (r ∷ rs) (suc n) zero i q d h = (h, λ e. omega arith)
typed_untyped k (r ∷ rs) (suc n) (suc m) i q d h = let a = typed_untyped k rs n m i q d h in (a.0, λ e. a.1 (omega arith))

has_last : (ns : List ℕ) (n m : ℕ) → Has ns m ⊎ (n ≡ m) → Has (ns ++ n ∷ []) m
has_last [] n m (inl h) = absurd h
has_last [] n m (inr h) = inl h
has_last (k ∷ ns) n m (inl (inl h)) = inl h
has_last (k ∷ ns) n m (inl (inr h)) = inr (has_last ns n m (inl h))
has_last (k ∷ ns) n m (inr h) = inr (has_last ns n m (inr h))

last_has : (ns : List ℕ) (n m : ℕ) → Has (ns ++ n ∷ []) m → Has ns m ⊎ (n ≡ m)
last_has [] n m (inl h) = inr h
last_has [] n m (inr h) = absurd h
last_has (k ∷ ns) n m (inl h) = inl (inl h)
last_has (k ∷ ns) n m (inr h) = by_rest (last_has ns n m h)
  where
    by_rest : Has ns m ⊎ (n ≡ m) → Has (k ∷ ns) m ⊎ (n ≡ m)
    by_rest (inl a) = inl (inr a)
    by_rest (inr a) = inr a

-- ---- a pass

pub pass_first : (is : List Item) (todo : List ℕ) (e : Env) → Passed is todo [] true e → Passed is [] todo false e
pass_first is todo e h = record {
  typed = h.typed;
  reached = h.reached;
  untyped = λ m u. by_place m (h.untyped m u);
  stuck = λ q m a. absurd a;
}
  where
    by_place : (m : ℕ) → Has todo m ⊎ Has [] m → Has [] m ⊎ Has todo m
    by_place m (inl a) = inr a
    by_place m (inr a) = absurd a

step_typed : (is : List Item) (left : List ℕ) (n : ℕ) (rest : List ℕ) (c : Bool) (e f : Env) (h : Passed is left (n ∷ rest) c e) → Turned true is h.typed n f → Passed is left rest true f
step_typed is left n rest c e f h t = record {
  typed = h.typed ++ n ∷ [];
  reached = subst (λ (rs : List Row). Stands (known_by rs) f) (sym (one_after h.typed n (unset_rows is))) t.3;
  untyped = λ m u.
      let a = typed_untyped (known_by (rows_of is h.typed)) (rows_of is h.typed) n m t.0 t.1 t.2 (subst (λ (rs : List Row). IsUntyped rs m) (one_after h.typed n (unset_rows is)) u) in
      by_place m a.1 (h.untyped m a.0);
  stuck = λ q m a. absurd (apart q);
}
  where
    apart : true ≡ false → ⊥
    apart q = cc

    by_place : (m : ℕ) → (n ≡ m → ⊥) → Has left m ⊎ Has (n ∷ rest) m → Has left m ⊎ Has rest m
    by_place m d (inl a) = inl a
    by_place m d (inr (inl a)) = absurd (d a)
    by_place m d (inr (inr a)) = inr a

step_left : (is : List Item) (left : List ℕ) (n : ℕ) (rest : List ℕ) (c : Bool) (e f : Env) (h : Passed is left (n ∷ rest) c e) → Turned false is h.typed n f → Passed is (left ++ n ∷ []) rest c f
step_left is left n rest c e f h t = record {
  typed = h.typed;
  reached = t.1;
  untyped = λ m u. by_place m (h.untyped m u);
  stuck = λ q m a. by_last q m (last_has left n m a);
}
  where
    by_place : (m : ℕ) → Has left m ⊎ Has (n ∷ rest) m → Has (left ++ n ∷ []) m ⊎ Has rest m
    by_place m (inl a) = inl (has_last left n m (inl a))
    by_place m (inr (inl a)) = inl (has_last left n m (inr a))
    by_place m (inr (inr a)) = inr a

    by_last : c ≡ false → (m : ℕ) → Has left m ⊎ (n ≡ m) → CantBeTyped (rows_of is h.typed) m
    by_last q m (inl a) = h.stuck q m a
    by_last q m (inr a) = subst (CantBeTyped (rows_of is h.typed)) a t.0

pub pass_step : (is : List Item) (left new : List ℕ) (n : ℕ) (rest : List ℕ) (b c d : Bool) (e f : Env) → ((ns : List ℕ) → Reached is ns e → Turned b is ns n f) → new ≡ (if b then left else left ++ n ∷ []) → d ≡ (if b then true else c)
    → Passed is left (n ∷ rest) c e → Passed is new rest d f
pass_step is left new n rest true c d e f g p q h =
    subst (λ (x : Bool). Passed is new rest x f) (sym q) (subst (λ (xs : List ℕ). Passed is xs rest true f) (sym p) (step_typed is left n rest c e f h (g h.typed h.reached)))
pass_step is left new n rest false c d e f g p q h =
    subst (λ (x : Bool). Passed is new rest x f) (sym q) (subst (λ (xs : List ℕ). Passed is xs rest c f) (sym p) (step_left is left n rest c e f h (g h.typed h.reached)))

-- how many are left
pub count_step : (left new : List ℕ) (n i : ℕ) (b c d : Bool) → new ≡ (if b then left else left ++ n ∷ []) → d ≡ (if b then true else c) → length left + (if c then 1 else 0) ≤ i → length new + (if d then 1 else 0) ≤ i + 1
count_step left new n i true c d p q h =
    subst (λ (x : Bool). length new + (if x then 1 else 0) ≤ i + 1) (sym q) (subst (λ (xs : List ℕ). length xs + 1 ≤ i + 1) (sym p) (less c h))
  where
    less : (x : Bool) → length left + (if x then 1 else 0) ≤ i → length left + 1 ≤ i + 1
    less true k = omega arith
    less false k = omega arith
count_step left new n i false c d p q h =
    subst (λ (x : Bool). length new + (if x then 1 else 0) ≤ i + 1) (sym q) (subst (λ (xs : List ℕ). length xs + (if c then 1 else 0) ≤ i + 1) (sym p) (let k = longer left in omega arith))
  where
    longer : (xs : List ℕ) → length (xs ++ n ∷ []) ≡ length xs + 1
    longer [] = refl
    longer (x ∷ xs) = let k = longer xs in omega arith

pub count_true : (todo left : List ℕ) (i : ℕ) (c : Bool) → IsTrue c → length left + (if c then 1 else 0) ≤ i → i ≤ length todo → length left < length todo
count_true todo left i true h k l = omega arith
count_true todo left i false h k l = let e : false ≡ true = h in absurd (cc)

pub next_in : (xs : List ℕ) (i d : ℕ) → i < length xs → drop i xs ≡ get_or xs i d ∷ drop (i + 1) xs
next_in xs i d h =
    let one : suc i ≡ i + 1 = omega arith in
    drop-cons xs i d h ∙ ap (λ (n : ℕ). get_or xs i d ∷ drop n xs) one

pub past_in : (xs : List ℕ) (i : ℕ) → length xs ≤ i → drop i xs ≡ []
past_in xs i h = past xs i h

-- what a pass leaves is what the next one begins with
pub pass_again : (is : List Item) (left : List ℕ) (c : Bool) (e : Env) → Passed is left [] c e → Passed is left [] true e
pass_again is left c e h = record {
  typed = h.typed;
  reached = h.reached;
  untyped = h.untyped;
  stuck = λ q m a. absurd (apart q);
}
  where
    apart : true ≡ false → ⊥
    apart q = cc
