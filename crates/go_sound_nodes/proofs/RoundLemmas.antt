-- Variables and labels in lists.
use Rattle.std.proofs.Common.{◌⊎◌, inl, inr, refl, sym, ap, ◌∙◌, arith}
use Rattle.std.proofs.lemmas.Bool.{eqb-true, eqb-false}
use Rattle.std.proofs.lemmas.List.Elements.{Contains-push_cases, Contains-append_cases, Contains-append_right}
use Rattle.std.specs.Prelude.{◌≡◌, ◌<◌, ℕ, zero, suc, List, [], ◌∷◌, ◌++◌, Bool, true, false, ◌||◌, ◌==◌, if◌then◌else◌, Option, Some, None, Contains, length}
use Rattle.go_type.specs.Tree.{Ty}
use Rattle.go_core.specs.CoreTree.{Var}
use Rattle.go_core.specs.TypeOf.{var_type}
use Rattle.go_core.specs.SoundNode.{Around, with_var, with_all}
use Rattle.go_sound_parts.specs.Lists.{last_type}
use Rattle.go_sound_nodes.specs.Around.{is_among, onto, or_type}

pub type_onto : (v : ℕ) (xs ys : List Var) → last_type v xs (var_type v ys) ≡ var_type v (onto xs ys)
type_onto v [] ys = refl
type_onto v (x ∷ xs) ys = type_onto v xs (x ∷ ys)

either_type : (b : Bool) (t : Ty) (o q r : Option Ty) → or_type o q ≡ r → or_type (if b then Some t else o) q ≡ (if b then Some t else r)
either_type true t o q r h = refl
either_type false t o q r h = h

pub type_append : (v : ℕ) (xs ys : List Var) → or_type (var_type v xs) (var_type v ys) ≡ var_type v (xs ++ ys)
type_append v [] ys = refl
type_append v (x ∷ xs) ys = either_type (x.id == v) x.type_ (var_type v xs) (var_type v ys) (var_type v (xs ++ ys)) (type_append v xs ys)

pub all_onto : (vs : List Var) (a : Around) → with_all vs a ≡ record a { vars = onto vs a.vars }
all_onto [] a = refl
all_onto (v ∷ vs) a = all_onto vs (with_var v a)

-- ---- labels

or_false : (a b : Bool) → (a || b) ≡ false → (a ≡ false) × (b ≡ false)
or_false true b h = absurd (cc)
or_false false b h = (refl, h)

or_true : (a b : Bool) → (a || b) ≡ true → (a ≡ true) ⊎ (b ≡ true)
or_true true b h = inl refl
or_true false b h = inr h

one_there : (x y : ℕ) → Contains {X = ℕ} [] x ⊎ (y ≡ x) → y ≡ x
one_there x y (inl c) = absurd (omega (arith, c.1))
one_there x y (inr e) = e

not_here : (x y : ℕ) (ys : List ℕ) → (y == x) ≡ false → (Contains ys x → ⊥) → Contains (y ∷ []) x ⊎ Contains ys x → ⊥
not_here x y ys b k (inl c) = let e = one_there x y (Contains-push_cases [] y x c) in eqb-false y x b e
not_here x y ys b k (inr c) = k c

pub not_among : (x : ℕ) (ys : List ℕ) → is_among x ys ≡ false → Contains ys x → ⊥
not_among x [] h c = omega (arith, c.1)
not_among x (y ∷ ys) h c =
    let o = or_false (y == x) (is_among x ys) h in
    not_here x y ys o.0 (not_among x ys o.1) (Contains-append_cases (y ∷ []) ys x c)

here_or : (x y : ℕ) (ys : List ℕ) → ((y == x) ≡ true) ⊎ (is_among x ys ≡ true) → (is_among x ys ≡ true → Contains ys x) → Contains (y ∷ ys) x
here_or x y ys (inl b) k = (0, omega arith, eqb-true y x b)
here_or x y ys (inr b) k = Contains-append_right (y ∷ []) ys x (k b)

pub among_there : (x : ℕ) (ys : List ℕ) → is_among x ys ≡ true → Contains ys x
among_there x [] h = absurd (cc)
among_there x (y ∷ ys) h = here_or x y ys (or_true (y == x) (is_among x ys) h) (among_there x ys)
