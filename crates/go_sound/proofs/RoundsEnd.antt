-- The rounds of what is known come to their end.
use Rattle.std.proofs.Common.{◌≡◌, ◌≤◌, ◌<◌, ◌⊎◌, inl, inr, ℕ, zero, suc, ◌+◌, length, List, [], ◌∷◌, refl, sym, subst, ap, ◌∙◌, arith, eq-or-lt_of_le, Bool, true, false, Option, Some, None, option_map}
use Rattle.go_syntax.specs.Tree as t
use Rattle.go_type.specs.Tree.{Ty}
use Rattle.go_type.specs.Named.{NamedTy}
use Rattle.go_type.specs.Underlying.{underlying}
use Rattle.go_typing.specs.Env.{Decl, variable, global, constant, type_name, function, imported, nil_value, refused, unknown, Bind}
use Rattle.go_typing.specs.Env as env
use Rattle.go_typing.specs.Items.{Item, constant_item, type_item, alias_item, function_item, variable_item, init_item, items_of}
use Rattle.go_typing.specs.Known.{Known, named_type, type_found, type_decl, decl_of, round, nothing_known, after_rounds, known}
use Rattle.go_sound.specs.Rounds.{IsItem, TypesNoMore, IsFixed, IsReached, StaysSo, IsLeastFixed}
use Rattle.go_sound.proofs.KnownWords.{AllItems, all_items, every_item, fill_same, LessDecl, OfType, NumberedTo, under_found, nothing, no_type, types_same, fill, types_from}
use Rattle.go_sound.proofs.Grown.{KnowsLess, ItemLess, item_less}
use Rattle.go_sound.proofs.Numbered.{items_numbered}
use Rattle.go_sound.proofs.RoundsStep.{known_of, round_state, nothing_state, round_less, first_less_round}

-- ---- how many items aren't typed

abbrev pub is_unknown : Decl → Bool
is_unknown unknown = true
is_unknown _ = false

pub unknown_is : (d : Decl) → is_unknown d ≡ true → d ≡ unknown
unknown_is unknown h = refl
unknown_is (variable id u) h = let e : false ≡ true = h in cc
unknown_is (global number u) h = let e : false ≡ true = h in cc
unknown_is (constant k u) h = let e : false ≡ true = h in cc
unknown_is (type_name u) h = let e : false ≡ true = h in cc
unknown_is (function id ps rs v) h = let e : false ≡ true = h in cc
unknown_is (imported path) h = let e : false ≡ true = h in cc
unknown_is (env.built_in b) h = let e : false ≡ true = h in cc
unknown_is nil_value h = let e : false ≡ true = h in cc
unknown_is (refused code) h = let e : false ≡ true = h in cc

abbrev one_if : Bool → ℕ
one_if true = 1
one_if false = 0

abbrev missing : (Item → Decl) → List Item → ℕ
missing f [] = 0
missing f (i ∷ is) = one_if (is_unknown (f i)) + missing f is

-- an item is as it was, with what its type stands for
abbrev SameItem : Known → Known → Item → Type 0
SameItem k l i = (decl_of k i ≡ decl_of l i) × OfType (λ (e : t.Expr). under_found k e ≡ under_found l e) i

none_typed : (k : Known) (number : ℕ) (o : Option Ty) → type_decl (named_type number) o ≡ unknown → option_map (underlying k.names) o ≡ None
none_typed k number None h = refl
none_typed k number (Some u) h = let e : is_unknown (type_name (named_type number)) ≡ is_unknown unknown = ap is_unknown h in let f : false ≡ true = e in cc

-- two items that aren't typed are the same
both_unknown : (k l : Known) (i : Item) → decl_of k i ≡ unknown → decl_of l i ≡ unknown → SameItem k l i
both_unknown k l (type_item n number e) h j = (h ∙ sym j, none_typed k number (type_found k e) h ∙ sym (none_typed l number (type_found l e) j))
both_unknown k l (constant_item n m u y all) h j = (h ∙ sym j, tt)
both_unknown k l (alias_item n e) h j = (h ∙ sym j, tt)
both_unknown k l (function_item n id s) h j = (h ∙ sym j, tt)
both_unknown k l (variable_item n) h j = (h ∙ sym j, tt)
both_unknown k l (init_item n) h j = (h ∙ sym j, tt)

-- where the declaration is the same its type is
same_found : (k l : Known) (know : KnowsLess k l) (i : Item) → ItemLess k l know i → decl_of k i ≡ decl_of l i → SameItem k l i
same_found k l know (type_item n number e) h d = (d, by_case h.types)
  where
    by_case : (type_found k e ≡ None) ⊎ (type_found k e ≡ type_found l e) × (under_found k e ≡ under_found l e) → under_found k e ≡ under_found l e
    by_case (inr f) = f.1
    by_case (inl f) = ap (option_map (underlying k.names)) f ∙ sym (none_typed l number (type_found l e) (sym d ∙ ap (type_decl (named_type number)) f))
same_found k l know (constant_item n m u y all) h d = (d, tt)
same_found k l know (alias_item n e) h d = (d, tt)
same_found k l know (function_item n id s) h d = (d, tt)
same_found k l know (variable_item n) h d = (d, tt)
same_found k l know (init_item n) h d = (d, tt)

-- an item is as it was, or it wasn't typed and is now
item_step : (k l : Known) (know : KnowsLess k l) (i : Item) → ItemLess k l know i → SameItem k l i ⊎ (is_unknown (decl_of k i) ≡ true) × (is_unknown (decl_of l i) ≡ false)
item_step k l know i h = by_case h.less
  where
    by_test : (b : Bool) → is_unknown (decl_of l i) ≡ b → decl_of k i ≡ unknown → SameItem k l i ⊎ (is_unknown (decl_of k i) ≡ true) × (is_unknown (decl_of l i) ≡ false)
    by_test true e d = inl (both_unknown k l i d (unknown_is (decl_of l i) e))
    by_test false e d = inr (ap is_unknown d, e)

    by_case : LessDecl (decl_of k i) (decl_of l i) → SameItem k l i ⊎ (is_unknown (decl_of k i) ≡ true) × (is_unknown (decl_of l i) ≡ false)
    by_case (inl d) = by_test (is_unknown (decl_of l i)) refl d
    by_case (inr d) = inl (same_found k l know i h d)

no_more : (k l : Known) (i : Item) (is : List Item) → decl_of k i ≡ decl_of l i → one_if (is_unknown (decl_of k i)) ≡ one_if (is_unknown (decl_of l i))
no_more k l i is h = ap (λ (d : Decl). one_if (is_unknown d)) h

at_most : (k l : Known) (is : List Item) → AllItems (SameItem k l) is ⊎ (missing (decl_of l) is < missing (decl_of k) is) → missing (decl_of l) is ≤ missing (decl_of k) is
at_most k l is (inr h) = omega arith
at_most k l [] (inl h) = omega arith
at_most k l (i ∷ is) (inl h) = let a = no_more k l i is h.0.0 in let b = at_most k l is (inl h.1) in omega arith

-- all are as they were, or there are fewer that aren't typed
count_more : (k l : Known) (know : KnowsLess k l) (is : List Item) → AllItems (ItemLess k l know) is → AllItems (SameItem k l) is ⊎ (missing (decl_of l) is < missing (decl_of k) is)
count_more k l know [] h = inl tt
count_more k l know (i ∷ is) h = by_case (item_step k l know i h.0) (count_more k l know is h.1)
  where
    by_case : SameItem k l i ⊎ (is_unknown (decl_of k i) ≡ true) × (is_unknown (decl_of l i) ≡ false) → AllItems (SameItem k l) is ⊎ (missing (decl_of l) is < missing (decl_of k) is)
        → AllItems (SameItem k l) (i ∷ is) ⊎ (missing (decl_of l) (i ∷ is) < missing (decl_of k) (i ∷ is))
    by_case (inl s) (inl r) = inl (s, r)
    by_case (inl s) (inr r) = let a = no_more k l i is s.0 in inr (omega arith)
    by_case (inr s) r =
        let a : one_if (is_unknown (decl_of k i)) ≡ 1 = ap one_if s.0 in
        let b : one_if (is_unknown (decl_of l i)) ≡ 0 = ap one_if s.1 in
        let m = at_most k l is r in inr (omega arith)

-- ---- rounds

same_round : (k l : Known) (is : List Item) → AllItems (SameItem k l) is → round is k ≡ round is l
same_round k l is h =
    round_state k is
    ∙ ap (λ (b : List Bind). known_of b (types_from (under_found k) is)) (fill_same (decl_of k) (decl_of l) is [] (all_items (SameItem k l) (λ (i : Item). decl_of k i ≡ decl_of l i) (λ i s. s.0) is h))
    ∙ ap (λ (ns : List NamedTy). known_of (fill (decl_of l) is []) ns) (types_same (under_found k) (under_found l) is (all_items (SameItem k l) (OfType (λ (e : t.Expr). under_found k e ≡ under_found l e)) (λ i s. s.1) is h))
    ∙ sym (round_state l is)

-- each round knows less than the next
pub chain : (is : List Item) (m : ℕ) → NumberedTo 0 is m → (n : ℕ) → KnowsLess (after_rounds n is) (after_rounds (suc n) is)
chain is m h zero = first_less_round is (nothing_known is)
chain is m h (suc n) = let c = chain is m h n in round_less is m h (after_rounds n is) (after_rounds (suc n) is) c c.grows

-- ---- the end

few : (f : Item → Decl) (is : List Item) → missing f is ≤ length is
few f [] = omega arith
few f (i ∷ is) = by_test (is_unknown (f i)) (few f is)
  where
    by_test : (b : Bool) → missing f is ≤ length is → one_if b + missing f is ≤ length (i ∷ is)
    by_test true h = omega arith
    by_test false h = omega arith

-- where none is typed at first, none ever is
all_missing : (f : Item → Decl) (is : List Item) → length is ≤ missing f is → AllItems (λ (i : Item). f i ≡ unknown) is
all_missing f [] h = tt
all_missing f (i ∷ is) h = by_test (is_unknown (f i)) refl h (few f is) (λ k. all_missing f is k)
  where
    by_test : (b : Bool) → is_unknown (f i) ≡ b → length (i ∷ is) ≤ one_if b + missing f is → missing f is ≤ length is → (length is ≤ missing f is → AllItems (λ (j : Item). f j ≡ unknown) is)
        → AllItems (λ (j : Item). f j ≡ unknown) (i ∷ is)
    by_test true e g k r = (unknown_is (f i) e, r (omega arith))
    by_test false e g k r = absurd (omega arith)

unknown_nothing : (k : Known) (i : Item) → decl_of k i ≡ unknown → OfType (λ (e : t.Expr). under_found k e ≡ no_type e) i
unknown_nothing k (type_item n number e) h = none_typed k number (type_found k e) h
unknown_nothing k (constant_item n m u y all) h = tt
unknown_nothing k (alias_item n e) h = tt
unknown_nothing k (function_item n id s) h = tt
unknown_nothing k (variable_item n) h = tt
unknown_nothing k (init_item n) h = tt

never_typed : (k : Known) (is : List Item) → AllItems (λ (i : Item). decl_of k i ≡ unknown) is → round is k ≡ nothing_known is
never_typed k is h =
    round_state k is
    ∙ ap (λ (b : List Bind). known_of b (types_from (under_found k) is)) (fill_same (decl_of k) nothing is [] h)
    ∙ ap (λ (ns : List NamedTy). known_of (fill nothing is []) ns)
    (types_same (under_found k) no_type is (all_items (λ (i : Item). decl_of k i ≡ unknown) (OfType (λ (e : t.Expr). under_found k e ≡ no_type e)) (unknown_nothing k) is h))
    ∙ sym (nothing_state is)

-- a round changes nothing, or so many are typed already
abbrev Ended : List Item → ℕ → Type 0
Ended is n = (after_rounds (suc n) is ≡ after_rounds n is) ⊎ (missing (decl_of (after_rounds n is)) is + suc n ≤ length is)

first_end : (is : List Item) → Ended is zero
first_end is = by_order (eq-or-lt_of_le (few (decl_of (nothing_known is)) is))
  where
    by_order : (missing (decl_of (nothing_known is)) is ≡ length is) ⊎ (missing (decl_of (nothing_known is)) is < length is) → Ended is zero
    by_order (inl e) = inl (never_typed (nothing_known is) is (all_missing (decl_of (nothing_known is)) is (omega arith)))
    by_order (inr l) = inr (omega arith)

next_end : (is : List Item) (m : ℕ) → NumberedTo 0 is m → (n : ℕ) → Ended is n → Ended is (suc n)
next_end is m h n (inl e) = inl (ap (round is) e)
next_end is m h n (inr e) = by_case (count_more (after_rounds n is) (after_rounds (suc n) is) know is (every_item (ItemLess (after_rounds n is) (after_rounds (suc n) is) know) (item_less (after_rounds n is) (after_rounds (suc n) is) know) is))
  where
    know : KnowsLess (after_rounds n is) (after_rounds (suc n) is)
    know = chain is m h n

    by_case : AllItems (SameItem (after_rounds n is) (after_rounds (suc n) is)) is ⊎ (missing (decl_of (after_rounds (suc n) is)) is < missing (decl_of (after_rounds n is)) is) → Ended is (suc n)
    by_case (inl s) = inl (sym (same_round (after_rounds n is) (after_rounds (suc n) is) is s))
    by_case (inr s) = inr (omega arith)

ends : (is : List Item) (m : ℕ) → NumberedTo 0 is m → (n : ℕ) → Ended is n
ends is m h zero = first_end is
ends is m h (suc n) = next_end is m h n (ends is m h n)

fixed : (is : List Item) (m : ℕ) → NumberedTo 0 is m → round is (known is) ≡ known is
fixed is m h = by_case (ends is m h (length is))
  where
    by_case : Ended is (length is) → round is (known is) ≡ known is
    by_case (inl e) = e
    by_case (inr e) = absurd (omega arith)

pub is_fixed : IsFixed
is_fixed ds = let n = items_numbered ds in fixed (items_of ds) n.last n.numbered

later_rounds : (is : List Item) (m : ℕ) → NumberedTo 0 is m → (n : ℕ) → length is ≤ n → after_rounds n is ≡ known is
later_rounds is m h zero l = let e : 0 ≡ length is = omega arith in ap (λ (j : ℕ). after_rounds j is) e
later_rounds is m h (suc n) l = by_order (eq-or-lt_of_le l) (λ k. later_rounds is m h n k)
  where
    by_order : (length is ≡ suc n) ⊎ (length is < suc n) → (length is ≤ n → after_rounds n is ≡ known is) → after_rounds (suc n) is ≡ known is
    by_order (inl e) r = ap (λ (j : ℕ). after_rounds j is) (sym e)
    by_order (inr k) r = ap (round is) (r (omega arith)) ∙ fixed is m h

pub is_reached : IsReached
is_reached ds n h = let r = items_numbered ds in later_rounds (items_of ds) r.last r.numbered n h

-- ---- of each declaration

of_item : (Q : Item → Type 0) (i : Item) (is : List Item) → IsItem i is → AllItems Q is → Q i
of_item Q i [] h a = absurd h
of_item Q i (j ∷ is) (inl e) a = subst Q e a.0
of_item Q i (j ∷ is) (inr h) a = of_item Q i is h a.1

types_no_more : (k l : Known) → KnowsLess k l → (i : Item) → TypesNoMore k l i
types_no_more k l know i = let r = item_less k l know i in r.less

pub stays_so : StaysSo
stays_so ds n i h = let r = items_numbered ds in types_no_more _ _ (chain (items_of ds) r.last r.numbered n) i

-- each round knows less than what another round doesn't change
pub below : (is : List Item) (m : ℕ) → NumberedTo 0 is m → (l : Known) → round is l ≡ l → (n : ℕ) → KnowsLess (after_rounds n is) l
below is m h l e zero = subst (KnowsLess (nothing_known is)) e (first_less_round is l)
below is m h l e (suc n) =
    let c = chain is m h n in
    subst (KnowsLess (after_rounds (suc n) is)) e (round_less is m h (after_rounds n is) l (below is m h l e n) c.grows)

pub is_least_fixed : IsLeastFixed
is_least_fixed ds l e i h = let r = items_numbered ds in types_no_more _ _ (below (items_of ds) r.last r.numbered l e (length (items_of ds))) i
