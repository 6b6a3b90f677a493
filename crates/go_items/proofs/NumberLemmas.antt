-- The numbers of names.
use Rattle.std.proofs.Common.{arith, ◌≡◌, ◌+◌, ℕ, zero, suc, ◌∙◌, List, [], ◌∷◌, ◌||◌, refl, sym, subst, ap, Bool, true, false, if◌then◌else◌, bytes_eq, slice_get}
use Rattle.std.specs.Prelude.{Option, Some, None}
use Rattle.std.proofs.lemmas.Slice.Eq.{bytes_eq-Decides}
use Rattle.go_walk.specs.SetsHas.{with_number}
use Rattle.go_typing.specs.Items.{Item, name_of}
use Rattle.go_sound.proofs.Among.{same_text}
use Rattle.go_items.specs.Leads.{number_from, first_number}

-- the first number, or else the other
abbrev pub or_number : Option ℕ → Option ℕ → Option ℕ
or_number (Some n) o = Some n
or_number None o = o

pub one_more : (x : List ℕ) (n : ℕ) (o : Option ℕ) (y : List ℕ) (r : Option ℕ) → or_number (with_number x n o y) r ≡ or_number o (if bytes_eq y x then Some n else r)
one_more x n (Some m) y r = refl
one_more x n None y r = by_test (bytes_eq y x)
  where
    by_test : (b : Bool) → or_number (if b then Some n else None) r ≡ (if b then Some n else r)
    by_test true = refl
    by_test false = refl

pub no_more : (o : Option ℕ) → or_number o None ≡ o
no_more (Some n) = refl
no_more None = refl

pub some_same : (n m : ℕ) → Some n ≡ Some m → n ≡ m
some_same n m h = cc

-- ---- a name's number is that of a declaration of the name

abbrev pub Named : List ℕ → List Item → ℕ → Type 0
Named x is k = (i : Item) × (slice_get is k ≡ Some i) × ((name_of i).text ≡ x)

abbrev pub NamedFrom : ℕ → List ℕ → List Item → ℕ → Type 0
NamedFrom n x is m = (k : ℕ) × (m ≡ n + k) × Named x is k

pub named_from : (n : ℕ) (x : List ℕ) (is : List Item) (m : ℕ) → number_from n x is ≡ Some m → NamedFrom n x is m
named_from n x [] m h = let e : None ≡ Some m = h in cc
named_from n x (i ∷ is) m h = by_test (bytes_eq x (name_of i).text) refl h (λ e. named_from (suc n) x is m e)
  where
    later : NamedFrom (suc n) x is m → NamedFrom n x (i ∷ is) m
    later r = let e = r.1 in (suc r.0, omega arith, r.2)

    by_test : (b : Bool) → bytes_eq x (name_of i).text ≡ b → (if b then Some n else number_from (suc n) x is) ≡ Some m → (number_from (suc n) x is ≡ Some m → NamedFrom (suc n) x is m) → NamedFrom n x (i ∷ is) m
    by_test true e k f = let s : n ≡ m = some_same n m k in (zero, omega arith, (i, refl, sym (same_text x (name_of i).text e)))
    by_test false e k f = later (f k)

pub named_at : (x : List ℕ) (is : List Item) (m : ℕ) → first_number x is ≡ Some m → Named x is m
named_at x is m h =
    let r = named_from 0 x is m h in
    let e = r.1 in
    let s : r.0 ≡ m = omega arith in
    subst (Named x is) s r.2

-- two names of one number are one
pub one_name : (x y : List ℕ) (is : List Item) (m : ℕ) → first_number x is ≡ Some m → first_number y is ≡ Some m → x ≡ y
one_name x y is m h k = same_of (named_at x is m h) (named_at y is m k)
  where
    same_of : Named x is m → Named y is m → x ≡ y
    same_of a b = let e : a.0 ≡ b.0 = some_item a.0 b.0 (sym a.1 ∙ b.1) in sym a.2 ∙ ap (λ (i : Item). (name_of i).text) e ∙ b.2
      where
        some_item : (i j : Item) → Some i ≡ Some j → i ≡ j
        some_item i j q = cc

-- ---- tests of names

pub turned : (x y : List ℕ) → bytes_eq x y ≡ bytes_eq y x
turned x y = grind (arith, bytes_eq-Decides)

pub neither : (b c : Bool) → (b || c) ≡ false → (b ≡ false) × (c ≡ false)
neither false c h = (refl, h)
neither true c h = let e : true ≡ false = h in cc

pub same_answer : (b c : Bool) → (b ≡ true → c ≡ true) → (c ≡ true → b ≡ true) → b ≡ c
same_answer true c f g = sym (f refl)
same_answer false true f g = g refl
same_answer false false f g = refl
