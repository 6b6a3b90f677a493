-- Untyped numbers that are constants as they stand.
use Rattle.std.specs.Prelude.{Bool, false}
use Rattle.gj_base.specs.declared.kind.Op.{Op}
use Rattle.go_const.specs.Operation.{whole_of}
use Rattle.go_typing.specs.Answer.{Pending, fixed}
use Rattle.go_typing.specs.Binary.{zero_by}

-- a constant zero that would divide
abbrev pub is_fixed_zero : Op → Pending → Bool
is_fixed_zero op (fixed at k) = zero_by op (whole_of k)
is_fixed_zero op _ = false
