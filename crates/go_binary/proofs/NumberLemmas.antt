-- The sum of untyped numbers, by whether the second is a constant zero that would divide.
use Rattle.std.proofs.Common.{◌≡◌, refl, List}
use Rattle.std.specs.Prelude.{if◌then◌else◌}
use Rattle.gj_base.specs.declared.place.Place.{Place}
use Rattle.gj_base.specs.declared.kind.Op.{Op}
use Rattle.go_type.specs.declared.types.Basis.{Basis}
use Rattle.go_type.specs.Named.{NamedTy}
use Rattle.go_typing.specs.Answer.{Pending, fixed, shifted, further, signed, joined, pending, bad}
use Rattle.go_typing.specs.Binary.{sum_of_numbers}
use Rattle.go_binary.specs.Fixed.{is_fixed_zero}

pub sum_is : (ns : List NamedTy) (op : Op) (q : Place) (x y : Pending) (b : Basis) → sum_of_numbers ns op q x y b ≡ (if is_fixed_zero op y then bad q 30 else pending (joined op x y) b)
sum_is ns op q x (fixed r l) b = refl
sum_is ns op q x (shifted at by l c) b = refl
sum_is ns op q x (further by p c) b = refl
sum_is ns op q x (signed by p) b = refl
sum_is ns op q x (joined by p r) b = refl
