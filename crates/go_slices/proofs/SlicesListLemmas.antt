-- Short lists of values, and copies of a list one after another.
use Rattle.std.proofs.Common.{refl, sym, ap, ◌∙◌, arith}
use Rattle.std.specs.Prelude.{◌≡◌, ◌<◌, ◌≤◌, ℕ, suc, ◌+◌, ◌-◌, List, [], ◌∷◌, ◌++◌, length, get_or}
use Rattle.std.proofs.lemmas.List.{append_assoc, append-nil}
use Rattle.std.specs.Borrow.{Bor}
use Rattle.go_core.specs.Memory.{Value}
use Rattle.go_core.specs.StepMemory.{repeated}
use Rattle.go_values.specs.declared.values.scalar.Scalar.{Scalar}

-- what a proof reads past the end of a list of values
abbrev pub nothing : Bor (List Scalar)
nothing = record { ref_ptr = (0, 0); now = [] }

pub one_value : {A : Type 0} (xs : List A) (d : A) → 1 ≤ length xs → length xs < 2 → xs ≡ get_or xs 0 d ∷ []
one_value {A} [] d l h = absurd (omega (arith, l))
one_value {A} (x ∷ []) d l h = refl
one_value {A} (x ∷ y ∷ ys) d l h = absurd (omega (arith, h))

pub two_values : {A : Type 0} (xs : List A) (d : A) → 2 ≤ length xs → length xs < 3 → xs ≡ get_or xs 0 d ∷ get_or xs 1 d ∷ []
two_values {A} [] d l h = absurd (omega (arith, l))
two_values {A} (x ∷ []) d l h = absurd (omega (arith, l))
two_values {A} (x ∷ y ∷ []) d l h = refl
two_values {A} (x ∷ y ∷ z ∷ zs) d l h = absurd (omega (arith, h))

-- ---- so many copies

pub repeated_step : (old new all zs : Value) (n i : ℕ) → i < n → new ≡ old ++ zs → old ++ repeated (n - i) zs ≡ all → new ++ repeated (n - (i + 1)) zs ≡ all
repeated_step old new all zs n i h e k =
    let s : n - i ≡ suc (n - (i + 1)) = omega (arith, h) in
    ap (λ (ys : Value). ys ++ repeated (n - (i + 1)) zs) e
    ∙ append_assoc old zs (repeated (n - (i + 1)) zs)
    ∙ sym (ap (λ (j : ℕ). old ++ repeated j zs) s)
    ∙ k

pub repeated_end : (old all zs : Value) (n i : ℕ) → n ≤ i → old ++ repeated (n - i) zs ≡ all → old ≡ all
repeated_end old all zs n i h k =
    let z : n - i ≡ 0 = omega (arith, h) in
    sym (append-nil old) ∙ sym (ap (λ (j : ℕ). old ++ repeated j zs) z) ∙ k
