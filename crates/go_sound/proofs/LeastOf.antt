-- The least of a list of faults.
use Rattle.std.proofs.Common.{◌≡◌, ◌<◌, ◌⊎◌, inl, inr, ℕ, List, [], ◌∷◌, refl, sym, subst, arith, Bool, true, false, ◌||◌, ◌&&◌, ◌==◌, if◌then◌else◌, Some, None}
use Rattle.std.specs.Prelude.{nat_lt}
use Rattle.std.proofs.lemmas.Bool.Decides.{nat_tests}
use Rattle.go_typing.specs.Answer.{Flaw}
use Rattle.go_typing.specs.Faulty.{IsIn}
use Rattle.go_typing.specs.Checked.{is_before, least_from, least}
use Rattle.go_sound.specs.Least.{IsBefore, IsLeast}

-- three numbers in order
abbrev Before : ℕ → ℕ → ℕ → ℕ → ℕ → ℕ → Type 0
Before a b c x y z = (a < x) ⊎ (a ≡ x) × ((b < y) ⊎ (b ≡ y) × (c < z))

abbrev before : ℕ → ℕ → ℕ → ℕ → ℕ → ℕ → Bool
before a b c x y z = nat_lt a x || ((a == x) && (nat_lt b y || ((b == y) && nat_lt c z)))

before_true : (a b c x y z : ℕ) → before a b c x y z ≡ true → Before a b c x y z
before_true a b c x y z h = grind (arith, nat_tests)

before_false : (a b c x y z : ℕ) → before a b c x y z ≡ false → Before a b c x y z → ⊥
before_false a b c x y z h (inl i) = grind (arith, nat_tests)
before_false a b c x y z h (inr (e, inl i)) = grind (arith, nat_tests)
before_false a b c x y z h (inr (e, inr (f, i))) = grind (arith, nat_tests)

-- what isn't after the last, where the middle one is no later than the last
past : (a b c x y z u v w : ℕ) → (Before x y z a b c → ⊥) → (Before u v w x y z → ⊥) → Before u v w a b c → ⊥
past a b c x y z u v w h k (inl i) = grind (arith, nat_tests)
past a b c x y z u v w h k (inr (e, inl i)) = grind (arith, nat_tests)
past a b c x y z u v w h k (inr (e, inr (f, i))) = grind (arith, nat_tests)

not_itself : (a b c : ℕ) → Before a b c a b c → ⊥
not_itself a b c (inl i) = grind (arith, nat_tests)
not_itself a b c (inr (e, inl i)) = grind (arith, nat_tests)
not_itself a b c (inr (e, inr (f, i))) = grind (arith, nat_tests)

not_back : (a b c x y z : ℕ) → Before a b c x y z → Before x y z a b c → ⊥
not_back a b c x y z h (inl i) = grind (arith, nat_tests)
not_back a b c x y z h (inr (e, inl i)) = grind (arith, nat_tests)
not_back a b c x y z h (inr (e, inr (f, i))) = grind (arith, nat_tests)

-- ---- of faults

later : (g f m : Flaw) → (IsBefore f m → ⊥) → (IsBefore g f → ⊥) → IsBefore g m → ⊥
later g f m h k b =
    past m.place.file m.place.offset m.code f.place.file f.place.offset f.code g.place.file g.place.offset g.code h k b

back : (f g : Flaw) → IsBefore f g → IsBefore g f → ⊥
back f g h k = not_back f.place.file f.place.offset f.code g.place.file g.place.offset g.code h k

itself : (f : Flaw) → IsBefore f f → ⊥
itself f h = not_itself f.place.file f.place.offset f.code h

tested : (g f : Flaw) → is_before g f ≡ true → IsBefore g f
tested g f h = before_true g.place.file g.place.offset g.code f.place.file f.place.offset f.code h

untested : (g f : Flaw) → is_before g f ≡ false → IsBefore g f → ⊥
untested g f h k = before_false g.place.file g.place.offset g.code f.place.file f.place.offset f.code h k

is_itself : (f g : Flaw) → f ≡ g → IsBefore g f → ⊥
is_itself f g e b = itself f (subst (λ (x : Flaw). IsBefore x f) (sym e) b)

-- one more before the rest, of which the least is known
less_first : (f g m : Flaw) (gs : List Flaw) → is_before g f ≡ true → IsLeast m (g ∷ gs) → IsLeast m (f ∷ g ∷ gs)
less_first f g m gs h l = record { is_told = inr l.is_told; none_before = none }
  where
    none : (x : Flaw) → IsIn x (f ∷ g ∷ gs) → IsBefore x m → ⊥
    none x (inl e) b = later f g m (l.none_before g (inl refl)) (back g f (tested g f h)) (subst (λ (y : Flaw). IsBefore y m) (sym e) b)
    none x (inr i) b = l.none_before x i b

less_second : (f g m : Flaw) (gs : List Flaw) → is_before g f ≡ false → IsLeast m (f ∷ gs) → IsLeast m (f ∷ g ∷ gs)
less_second f g m gs h l = record { is_told = told_in l.is_told; none_before = none }
  where
    told_in : IsIn m (f ∷ gs) → IsIn m (f ∷ g ∷ gs)
    told_in (inl e) = inl e
    told_in (inr i) = inr (inr i)

    none : (x : Flaw) → IsIn x (f ∷ g ∷ gs) → IsBefore x m → ⊥
    none x (inl e) b = l.none_before x (inl e) b
    none x (inr (inl e)) b = later g f m (l.none_before f (inl refl)) (untested g f h) (subst (λ (y : Flaw). IsBefore y m) (sym e) b)
    none x (inr (inr i)) b = l.none_before x (inr i) b

first_least : (f : Flaw) (gs : List Flaw) → IsLeast (least_from f gs) (f ∷ gs)
first_least f [] = record { is_told = inl refl; none_before = none }
  where
    none : (x : Flaw) → IsIn x (f ∷ []) → IsBefore x f → ⊥
    none x (inl e) b = is_itself f x e b
    none x (inr i) b = i
first_least f (g ∷ gs) = by_test (is_before g f) refl (first_least g gs) (first_least f gs)
  where
    by_test : (b : Bool) → is_before g f ≡ b → IsLeast (least_from g gs) (g ∷ gs) → IsLeast (least_from f gs) (f ∷ gs) → IsLeast (least_from (if b then g else f) gs) (f ∷ g ∷ gs)
    by_test true e l m = less_first f g (least_from g gs) gs e l
    by_test false e l m = less_second f g (least_from f gs) gs e m

pub of_list : (fs : List Flaw) (f : Flaw) → least fs ≡ Some f → IsLeast f fs
of_list [] f h = cc
of_list (g ∷ gs) f h = let e : least_from g gs ≡ f = cc in subst (λ (m : Flaw). IsLeast m (g ∷ gs)) e (first_least g gs)

pub none_listed : (fs : List Flaw) → least fs ≡ None → fs ≡ []
none_listed [] h = refl
none_listed (g ∷ gs) h = cc
