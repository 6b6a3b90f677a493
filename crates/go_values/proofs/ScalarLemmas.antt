-- What the definitions' scalar is of each kind of scalar.
use Rattle.std.proofs.Common.{◌≡◌, ◌∙◌, sym, ap, List, ℕ, ℤ, Bool}
use Rattle.go_type.specs.Tree.{Ty}
use Rattle.go_core.specs.Memory as core
use Rattle.go_values.specs.ValuesSeen.{scalar_of, scalar_step}
use Rattle.go_values.specs.declared.values.scalar.Scalar.{Scalar-F}
use Rattle.go_values.specs.declared.values.scalar.Scalar.TheVariants as held
use Rattle.go_values.specs.declared.values.scalar.Scalar.TheVariants.{rolls-Truth, rolls-Whole, rolls-Pointer, rolls-Slice}
use Rattle.go_values.specs.declared.values.scalar.Scalar.TheFolds.{fold-roll-Scalar}

module _ (ts : List Ty) where
  pub truth_seen : (b : Bool) → scalar_of ts (held.Truth b) ≡ core.truth b
  truth_seen b = ap (scalar_of ts) (sym (rolls-Truth b)) ∙ fold-roll-Scalar core.Scalar (scalar_step ts) (Scalar-F.Truth b)

  pub whole_seen : (n : ℤ) → scalar_of ts (held.Whole n) ≡ core.whole n
  whole_seen n = ap (scalar_of ts) (sym (rolls-Whole n)) ∙ fold-roll-Scalar core.Scalar (scalar_step ts) (Scalar-F.Whole n)

  pub pointer_seen : (base : ℕ) → scalar_of ts (held.Pointer base) ≡ core.pointer base
  pointer_seen base = ap (scalar_of ts) (sym (rolls-Pointer base)) ∙ fold-roll-Scalar core.Scalar (scalar_step ts) (Scalar-F.Pointer base)

  pub slice_seen : (base length capacity : ℕ) → scalar_of ts (held.Slice base length capacity) ≡ core.slice base length capacity
  slice_seen base length capacity = ap (scalar_of ts) (sym (rolls-Slice base length capacity)) ∙ fold-roll-Scalar core.Scalar (scalar_step ts) (Scalar-F.Slice base length capacity)
