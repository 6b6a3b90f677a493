-- Whether what stands in a statement is typed: lists of places and names that are gone through by an index.
use Rattle.std.proofs.Common.{arith, ◌≡◌, ◌<◌, ◌≤◌, ◌+◌, ℕ, ◌∙◌, sym, ap, List, ◌∷◌, Bool, true, false, cond, ◌||◌, ◌&&◌, not, length, drop, get_or}
use Rattle.std.specs.Borrow.{Bor}
use Rattle.gj_base.specs.declared.place.Place.{Place}
use Rattle.go_syntax.specs.declared.tree.Name.{Name}
use Rattle.go_typing.specs.Env.{nowhere}
use Rattle.go_walk.specs.SetsHas as sets
use Rattle.go_walk.specs.Seen.{names_of}
use Rattle.go_typing.specs.Statements.{name_places}
use Rattle.go_typing.specs.Walk.{same_place, is_among, all_used, any_among}
use Rattle.go_walk.proofs.WalkSteps.{next_at, next_in, past, or_false, moved_over, other_way}

-- ---- a set that is filled

pub set_more : (q : Place) (xs : List Place) (i : ℕ) (p : Place) (had has all : Bool) → i < length xs → p ≡ get_or xs i nowhere → has ≡ (sets.same_place q p || had) → (had || is_among q (drop i xs)) ≡ all → (has || is_among q (drop (i + 1) xs)) ≡ all
set_more q xs i p had has all h e k r =
    let rest = drop (i + 1) xs in
    ap (λ (b : Bool). b || is_among q rest) k
    ∙ ap (λ (b : Bool). (b || had) || is_among q rest) (other_way q p)
    ∙ moved_over had (same_place p q) (is_among q rest)
    ∙ ap (λ (zs : List Place). had || is_among q zs) (ap (λ (z : Place). z ∷ rest) e ∙ sym (next_in xs i nowhere h))
    ∙ r

pub set_end : (q : Place) (xs : List Place) (i : ℕ) (had all : Bool) → length xs ≤ i → (had || is_among q (drop i xs)) ≡ all → had ≡ all
set_end q xs i had all h r = sym (or_false had) ∙ ap (λ (zs : List Place). had || is_among q zs) (sym (past xs i h)) ∙ r

-- ---- names that are all there

pub all_on : (ns : List Name) (i : ℕ) (d : Name) (ps : List Place) (all : Bool) → i < length ns → is_among (get_or ns i d).place ps ≡ true → all_used (drop i ns) ps ≡ all → all_used (drop (i + 1) ns) ps ≡ all
all_on ns i d ps all h k r = sym (ap (λ (ms : List Name). all_used ms ps) (next_in ns i d h) ∙ ap (λ (b : Bool). b && all_used (drop (i + 1) ns) ps) k) ∙ r

pub all_not : (ns : List Name) (i : ℕ) (d : Name) (ps : List Place) (all : Bool) → i < length ns → is_among (get_or ns i d).place ps ≡ false → all_used (drop i ns) ps ≡ all → false ≡ all
all_not ns i d ps all h k r = sym (ap (λ (ms : List Name). all_used ms ps) (next_in ns i d h) ∙ ap (λ (b : Bool). b && all_used (drop (i + 1) ns) ps) k) ∙ r

pub all_end : (ns : List Name) (i : ℕ) (ps : List Place) (all : Bool) → length ns ≤ i → all_used (drop i ns) ps ≡ all → true ≡ all
all_end ns i ps all h r = sym (ap (λ (ms : List Name). all_used ms ps) (past ns i h)) ∙ r

-- ---- names of which one is there

abbrev pub any_named : List (Bor Name) → List Place → Bool
any_named xs ps = any_among (name_places (names_of xs)) ps

pub named_on : (xs : List (Bor Name)) (i : ℕ) (x : Bor Name) (ps : List Place) (all : Bool) → i < length xs → x ≡ get_or xs i x → is_among x.now.place ps ≡ false → any_named (drop i xs) ps ≡ all → any_named (drop (i + 1) xs) ps ≡ all
named_on xs i x ps all h e k r = sym (ap (λ (ys : List (Bor Name)). any_named ys ps) (next_at xs i x h e) ∙ ap (λ (b : Bool). b || any_named (drop (i + 1) xs) ps) k) ∙ r

pub named_here : (xs : List (Bor Name)) (i : ℕ) (x : Bor Name) (ps : List Place) (all : Bool) → i < length xs → x ≡ get_or xs i x → is_among x.now.place ps ≡ true → any_named (drop i xs) ps ≡ all → true ≡ all
named_here xs i x ps all h e k r = sym (ap (λ (ys : List (Bor Name)). any_named ys ps) (next_at xs i x h e) ∙ ap (λ (b : Bool). b || any_named (drop (i + 1) xs) ps) k) ∙ r

pub named_end : (xs : List (Bor Name)) (i : ℕ) (ps : List Place) (all : Bool) → length xs ≤ i → any_named (drop i xs) ps ≡ all → false ≡ all
named_end xs i ps all h r = sym (ap (λ (ys : List (Bor Name)). any_named ys ps) (past xs i h)) ∙ r

-- ---- three parts, one after the other

pub first_not : (a b c : Bool) → a ≡ false → false ≡ (a && not b && c)
first_not a b c p = sym (ap (λ (x : Bool). x && not b && c) p)

pub second_not : (a b c : Bool) → a ≡ true → b ≡ true → false ≡ (a && not b && c)
second_not a b c p q = λ j. sym p j && not (sym q j) && c

pub third_is : (a b c : Bool) → a ≡ true → b ≡ false → c ≡ (a && not b && c)
third_is a b c p q = λ j. sym p j && not (sym q j) && c

-- ---- names whose declarations aren't typed

pub none_more : (n : ℕ) → n ≡ n + 0
none_more n = omega arith

pub none_lost : (b : Bool) (old : ℕ) → b ≡ false → old ≡ old + cond b 1 0
none_lost b old p = none_more old ∙ ap (λ (x : Bool). old + cond x 1 0) (sym p)

pub both_more : (a b c : ℕ) → (a + b) + c ≡ a + (b + c)
both_more a b c = omega arith
