-- Fields of a struct by their places.
use Rattle.std.proofs.Common.{refl}
use Rattle.std.specs.Prelude.{◌≡◌, ℕ, zero, suc, List, [], ◌∷◌, map, slice_get}
use Rattle.go_type.specs.Tree.{Ty}
use Rattle.go_type.specs.Levels.{fields_of}
use Rattle.go_type.specs.declared.types.FieldRow.{FieldRow}
use Rattle.go_core.specs.TypeOf.{nth_field}
use Rattle.go_sound_parts.specs.Fields.{field_of}

pub nth_of : (ts : List Ty) (fs : List FieldRow) (n : ℕ) → slice_get (map (field_of ts) fs) n ≡ nth_field (fields_of ts fs) n
nth_of ts [] n = refl
nth_of ts (f ∷ fs) zero = refl
nth_of ts (f ∷ fs) (suc n) = nth_of ts fs n
