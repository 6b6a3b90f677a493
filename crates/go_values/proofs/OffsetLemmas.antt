-- Where fields and elements lie.
use Rattle.std.proofs.Common.{refl, sym, ap, ◌∙◌, arith}
use Rattle.std.specs.Prelude.{◌≡◌, ◌<◌, ◌≤◌, ℕ, zero, suc, ◌+◌, ◌*◌, List, [], ◌∷◌, length, take}
use Rattle.std.proofs.Math.Nat.{suc-mul, zero-mul}
use Rattle.go_type.specs.Tree.{Ty}
use Rattle.go_type.specs.Levels.{tree_of, fields_of}
use Rattle.go_type.specs.declared.types.FieldRow.{FieldRow}
use Rattle.go_core.specs.Layout.{Shape, size, parts_size, copies, shape_with, parts_with, Located, nowhere, located, further, nth_part, offset_in}

module _ (ts : List Ty) (of_name : ℕ → Shape) where
  nth_there : (fs : List FieldRow) (n : ℕ) → n < length fs → (s : Shape) × (nth_part (parts_with of_name (fields_of ts fs)) n ≡ located s (parts_size (parts_with of_name (fields_of ts (take n fs)))))
  nth_there [] n h = absurd (omega (arith, h))
  nth_there (f ∷ fs) zero h = (shape_with of_name (tree_of ts f.ty), refl)
  nth_there (f ∷ fs) (suc n) h =
      let r = nth_there fs n (omega (arith, h)) in
      (r.0, ap (further (size (shape_with of_name (tree_of ts f.ty)))) r.1)

  nth_past : (fs : List FieldRow) (n : ℕ) → length fs ≤ n → nth_part (parts_with of_name (fields_of ts fs)) n ≡ nowhere
  nth_past [] n h = refl
  nth_past (f ∷ fs) zero h = absurd (omega (arith, h))
  nth_past (f ∷ fs) (suc n) h = ap (further (size (shape_with of_name (tree_of ts f.ty)))) (nth_past fs n (omega (arith, h)))

  pub field_there : (fs : List FieldRow) (n k : ℕ) → n < length fs → k ≡ parts_size (parts_with of_name (fields_of ts (take n fs))) → k ≡ offset_in (nth_part (parts_with of_name (fields_of ts fs)) n)
  field_there fs n k h e = let r = nth_there fs n h in rw r.1 e

  pub field_past : (fs : List FieldRow) (n : ℕ) → length fs ≤ n → 0 ≡ offset_in (nth_part (parts_with of_name (fields_of ts fs)) n)
  field_past fs n h = rw (nth_past fs n h) refl

nth_copy : (n : ℕ) (s : Shape) (i : ℕ) → i < n → nth_part (copies n s) i ≡ located s (i * size s)
nth_copy zero s i h = absurd (omega (arith, h))
nth_copy (suc n) s zero h = ap (located s) (sym (zero-mul (size s)))
nth_copy (suc n) s (suc i) h =
    let e : suc i * size s ≡ i * size s + size s = suc-mul i (size s) in
    ap (further (size s)) (nth_copy n s i (omega (arith, h))) ∙ ap (located s) (omega (arith, e))

copy_past_all : (n : ℕ) (s : Shape) (i : ℕ) → n ≤ i → nth_part (copies n s) i ≡ nowhere
copy_past_all zero s i h = refl
copy_past_all (suc n) s zero h = absurd (omega (arith, h))
copy_past_all (suc n) s (suc i) h = ap (further (size s)) (copy_past_all n s i (omega (arith, h)))

pub copy_there : (n : ℕ) (s : Shape) (i k m : ℕ) → i < n → m ≡ size s → k ≡ i * m → k ≡ offset_in (nth_part (copies n s) i)
copy_there n s i k m h e f = rw (nth_copy n s i h) (f ∙ ap (λ (x : ℕ). i * x) e)

pub copy_past : (n : ℕ) (s : Shape) (i : ℕ) → n ≤ i → 0 ≡ offset_in (nth_part (copies n s) i)
copy_past n s i h = rw (copy_past_all n s i h) refl
