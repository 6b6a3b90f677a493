-- The least of faults.
use Rattle.std.proofs.Common.{◌≡◌, ◌<◌, ◌≤◌, ◌+◌, ◌++◌, ℕ, suc, List, [], ◌∷◌, Bool, true, false, cond, ◌⊎◌, length, refl, sym, ap, subst, ◌∙◌, inl, inr, arith}
use Rattle.std.specs.Prelude.{Option, Some, None, IfSome, IsTrue, Contains, All, not}
use Rattle.std.specs.List.{AllByRecursion}
use Rattle.std.proofs.lemmas.List.Elements.{All-from_recursion}
use Rattle.std.proofs.lemmas.Bool.Decides.{nat_tests}
use Rattle.gj_base.specs.declared.fault.Fault.{Fault}
use Rattle.go_load.specs.Faults.{is_before, IsLeast, first_of}
use Rattle.go_load.specs.Least.{first_in, lesser, least_from}

-- one list after the other
pub least_append : (least : Option Fault) (xs ys : List Fault) → least_from least (xs ++ ys) ≡ least_from (least_from least xs) ys
least_append least [] ys = refl
least_append least (x ∷ xs) ys = least_append (Some (lesser least x)) xs ys

-- the second doesn't come before the first
pub record NotAfter (f g : Fault) : Type 0 where
  pub holds : is_before g f ≡ false

-- the same by numbers
abbrev pub Lower : Fault → Fault → Type 0
Lower f g = (f.place.file < g.place.file) ⊎ ((f.place.file ≡ g.place.file) × ((f.place.offset < g.place.offset) ⊎ ((f.place.offset ≡ g.place.offset) × (f.code ≤ g.code))))

pub lower_of : (f g : Fault) → NotAfter f g → Lower f g
lower_of f g h = let e = h.holds in grind (arith, nat_tests)

pub of_lower : (f g : Fault) → Lower f g → NotAfter f g
of_lower f g h = record { holds = grind (arith, nat_tests) }

lower_trans : (f g k : Fault) → Lower f g → Lower g k → Lower f k
lower_trans f g k p q = grind arith

pub not_after_itself : (f : Fault) → NotAfter f f
not_after_itself f = record { holds = grind (arith, nat_tests) }

pub not_after_trans : (f g k : Fault) → NotAfter f g → NotAfter g k → NotAfter f k
not_after_trans f g k p q = of_lower f k (lower_trans f g k (lower_of f g p) (lower_of g k q))

before_not_after : (f g : Fault) → is_before f g ≡ true → NotAfter f g
before_not_after f g e = record { holds = grind (arith, nat_tests) }

-- the lesser of two is one of them, and neither comes before it
record IsLesser (least : Option Fault) (fault choice : Fault) : Type 0 where
  is : (choice ≡ fault) ⊎ (least ≡ Some choice)
  first : IfSome least (λ other. NotAfter choice other)
  second : NotAfter choice fault

lesser_is : (least : Option Fault) (fault : Fault) → IsLesser least fault (lesser least fault)
lesser_is None fault = record { is = inl refl; first = tt; second = not_after_itself fault }
lesser_is (Some other) fault = by (is_before fault other) refl
  where
    by : (b : Bool) → is_before fault other ≡ b → IsLesser (Some other) fault (cond b fault other)
    by true e = record { is = inl refl; first = before_not_after fault other e; second = not_after_itself fault }
    by false e = record { is = inr refl; first = not_after_itself other; second = record { holds = e } }

-- what the least of a list is
record IsLeastFrom (least : Option Fault) (faults : List Fault) (fault : Fault) : Type 0 where
  is : (least ≡ Some fault) ⊎ Contains faults fault
  first : IfSome least (λ other. NotAfter fault other)
  others : AllByRecursion (NotAfter fault) faults

past : (x : Fault) (xs : List Fault) (fault : Fault) → Contains xs fault → Contains (x ∷ xs) fault
past x xs fault there = (suc there.0, omega (arith, there.1), there.2)

at_front : (x : Fault) (xs : List Fault) → Contains (x ∷ xs) x
at_front x xs = (0, omega arith, refl)

some_is : (f g : Fault) → (let o : Option Fault = Some f in o) ≡ Some g → f ≡ g
some_is f g e = cc

from_lesser : (least : Option Fault) (other fault : Fault) (choice : Fault) → IfSome least (λ o. NotAfter choice o) → NotAfter fault choice → IfSome least (λ o. NotAfter fault o)
from_lesser None other fault choice a b = tt
from_lesser (Some o) other fault choice a b = not_after_trans fault choice o b a

least_is : (faults : List Fault) (least : Option Fault) (fault : Fault) → least_from least faults ≡ Some fault → IsLeastFrom least faults fault
least_is [] None fault e = absurd (cc)
least_is [] (Some other) fault e = let same = some_is other fault e in record { is = inl e; first = subst (λ (f : Fault). NotAfter f other) same (not_after_itself other); others = tt }
least_is (x ∷ xs) least fault e =
    let chosen = lesser_is least x in
    let rest = least_is xs (Some (lesser least x)) fault e in
    record {
      is = member chosen.is rest.is;
      first = from_lesser least x fault (lesser least x) chosen.first rest.first;
      others = (not_after_trans fault (lesser least x) x rest.first chosen.second, rest.others);
    }
  where
    member : (lesser least x ≡ x) ⊎ (least ≡ Some (lesser least x)) → ((let o : Option Fault = Some (lesser least x) in o) ≡ Some fault) ⊎ Contains xs fault → (least ≡ Some fault) ⊎ Contains (x ∷ xs) fault
    member a (inr there) = inr (past x xs fault there)
    member (inl e) (inl same) = inr (subst (λ (f : Fault). Contains (x ∷ xs) f) (sym e ∙ some_is (lesser least x) fault same) (at_front x xs))
    member (inr e) (inl same) = inl (e ∙ same)

true_of : (f : Fault) (g : Fault) → NotAfter f g → IsTrue (not (is_before g f))
true_of f g h = ap not h.holds

all_true : (f : Fault) (gs : List Fault) → AllByRecursion (NotAfter f) gs → AllByRecursion (λ g. IsTrue (not (is_before g f))) gs
all_true f [] a = tt
all_true f (g ∷ gs) a = (true_of f g a.0, all_true f gs a.1)

-- the least that is found one by one is the least
pub least_of : (faults : List Fault) (fault : Fault) → least_from None faults ≡ Some fault → IsLeast fault faults
least_of faults fault e =
    let is = least_is faults None fault e in
    record { among = by is.is; least = All-from_recursion (λ g. IsTrue (not (is_before g fault))) faults (all_true fault faults is.others) }
  where
    by : ((let o : Option Fault = None in o) ≡ Some fault) ⊎ Contains faults fault → Contains faults fault
    by (inl bad) = absurd (cc)
    by (inr there) = there

-- none is found only where there is none
pub least_none : (faults : List Fault) → least_from None faults ≡ None → faults ≡ []
least_none [] e = refl
least_none (x ∷ xs) e = absurd (never xs x e)
  where
    never : (ys : List Fault) (y : Fault) → least_from (Some y) ys ≡ None → ⊥
    never [] y e = cc
    never (z ∷ zs) y e = never zs (lesser (Some y) z) e

pub first_none : (faults : List Fault) → first_in faults ≡ None → faults ≡ []
first_none [] e = refl
first_none (x ∷ xs) e = absurd (cc)

-- a fault that no other of a list comes before, at its front
pub first_is_least : (fault : Fault) (faults : List Fault) → first_in faults ≡ Some fault → AllByRecursion (NotAfter fault) faults → IsLeast fault faults
first_is_least fault [] e a = absurd (cc)
first_is_least fault (x ∷ xs) e a = record {
  among = subst (λ (f : Fault). Contains (x ∷ xs) f) (some_is x fault e) (at_front x xs);
  least = All-from_recursion (λ g. IsTrue (not (is_before g fault))) (x ∷ xs) (all_true fault (x ∷ xs) a);
}

-- the first of two lists, where it isn't empty
pub first_of_some : (xs ys : List Fault) (fault : Fault) → first_in xs ≡ Some fault → first_of xs ys ≡ xs
first_of_some [] ys fault e = absurd (cc)
first_of_some (x ∷ xs) ys fault e = refl

pub first_of_none : (xs ys : List Fault) → xs ≡ [] → first_of xs ys ≡ ys
first_of_none xs ys e = ap (λ (zs : List Fault). first_of zs ys) e

pub none_of_both : (xs ys : List Fault) → first_of xs ys ≡ [] → (xs ≡ []) × (ys ≡ [])
none_of_both [] ys e = (refl, e)
none_of_both (x ∷ xs) ys e = absurd (cc)
