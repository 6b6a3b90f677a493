use Rattle.std.proofs.Common.{◌≡◌, ℕ}
use Rattle.std.specs.Prelude.{Some, slice_get}
use Rattle.go_sound_parts.specs.declared.measures.Measure.{Measure}
use Rattle.go_sound_parts.proofs.measures.nothing.Given as goal

abbrev pub invariant-types : goal.invariant-types
invariant-types l = (k : ℕ) (m : Measure) → slice_get l.measures.items k ≡ Some (Some m) → ⊥
