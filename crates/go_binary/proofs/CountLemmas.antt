-- A constant count, by whether it is negative.
use Rattle.std.proofs.Common.{◌≡◌, refl, arith}
use Rattle.std.specs.Prelude.{ℤ, pos, negsuc, ◌<ℤ◌, ◌≤ℤ◌, [], Some, if◌then◌else◌}
use Rattle.std.proofs.lemmas.Int.{ints}
use Rattle.gj_base.specs.declared.place.Place.{Place}
use Rattle.gj_base.specs.declared.kind.Kind.TheVariants.{U32}
use Rattle.go_const.specs.declared.constant.Const.{Const}
use Rattle.go_const.specs.Answer.{holds}
use Rattle.go_typing.specs.Env.{uint_type}
use Rattle.go_typing.specs.Answer.{flaw}
use Rattle.go_typing.specs.Operand.{constant_at}
use Rattle.go_typing.specs.Shift.{Count, counted, negative, unfit, not_negative, held_count}

pub negative_known : (z : ℤ) (c : Count) → z <ℤ pos 0 → not_negative (Some z) c ≡ negative
negative_known (pos n) c h = absurd (omega (arith, ints))
negative_known (negsuc n) c h = refl

pub other_known : (z : ℤ) (c : Count) → pos 0 ≤ℤ z → not_negative (Some z) c ≡ c
other_known (pos n) c h = refl
other_known (negsuc n) c h = absurd (omega (arith, ints))

pub negative_held : (at : Place) (k : Const) (z : ℤ) → z <ℤ pos 0 → held_count at k (Some z) ≡ negative
negative_held at k (pos n) h = absurd (omega (arith, ints))
negative_held at k (negsuc n) h = refl

pub other_held : (at : Place) (k : Const) (z : ℤ) → pos 0 ≤ℤ z → held_count at k (Some z) ≡ (if holds (Some U32) z then counted (constant_at uint_type k) (Some k) else unfit (flaw at 32) [])
other_held at k (pos n) h = refl
other_held at k (negsuc n) h = absurd (omega (arith, ints))
