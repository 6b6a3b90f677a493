-- Shifts. Go specification (as of Go 1.17), "Operators" (shifts): `<<` and `>>`. The count is of an integer
-- type, or an untyped constant that `uint` holds.
use Rattle.std.specs.Prelude.{ℤ, pos, negsuc, List, [], ◌∷◌, ◌++◌, Bool, true, false, ◌&&◌, if◌then◌else◌, Option, Some, None}
use Rattle.gj_base.specs.declared.place.Place.{Place}
use Rattle.gj_base.specs.declared.kind.Kind.TheVariants.{U32}
use Rattle.gj_base.specs.declared.kind.Op.{Op}
use Rattle.go_const.specs.declared.constant.Const.{Const}
use Rattle.go_const.specs.Operation.{whole_of}
use Rattle.go_const.specs.Answer.{holds, shift_of}
use Rattle.go_type.specs.Tree.{Ty}
use Rattle.go_type.specs.Named.{NamedTy}
use Rattle.go_type.specs.Underlying.{underlying}
use Rattle.go_core.specs.CoreTree as core
use Rattle.go_core.specs.CoreTree.{Expr}
use Rattle.go_typing.specs.Env.{uint_type}
use Rattle.go_typing.specs.Answer.{Answer, value, pending, shifted, further, bad, wrong, Flaw, flaw, unless, where_known, is_known, Part}
use Rattle.go_typing.specs.Operand.{Operand, typed, constant_operand, truth_operand, pending_operand, nil_operand, single, constant_at, folded, folded_untyped, basis_of, is_int, is_number, number_kind, pending_flaws, pending_at}
use Rattle.go_typing.specs.Wanted.{no_value, no_type}

-- the count of a shift, as a value of an integer type
pub data Count : Type 0 where
  counted : Expr → Option Const → Count
  -- a negative constant
  negative : Count
  -- no integer
  no_integer : Count
  unfit : Flaw → List Flaw → Count

abbrev pub not_negative : Option ℤ → Count → Count
not_negative (Some (negsuc n)) c = negative
not_negative _ c = c

abbrev pub known_count : Expr → Option Const → Count
known_count c None = counted c None
known_count c (Some k) = not_negative (whole_of k) (counted c (Some k))

-- own: an untyped count takes `uint`
abbrev pub held_count : Place → Const → Option ℤ → Count
held_count at k None = no_integer
held_count at k (Some (negsuc n)) = negative
held_count at k (Some (pos n)) = if holds (Some U32) (pos n) then counted (constant_at uint_type k) (Some k) else unfit (flaw at 32) []

abbrev pub fit_count : List Flaw → Expr → Count
fit_count [] c = counted c None
fit_count (f ∷ fs) c = unfit f fs

module _ (ns : List NamedTy) where
  abbrev pub count_of : Place → Operand → Count
  count_of at (typed c t v) = if is_int (underlying ns t) then known_count c v else no_integer
  count_of at (constant_operand k) = held_count at k (whole_of k)
  count_of at (truth_operand c) = no_integer
  count_of at (pending_operand p b) = fit_count (pending_flaws ns uint_type p) (pending_at uint_type p)
  count_of at nil_operand = unfit (flaw at 73) []

  -- where both are constants the shift is one; an untyped constant by a count that is none waits for its type
  abbrev pub shift_typed : Place → Op → Ty → Expr → Option Const → Expr → Option Const → Answer
  shift_typed at op t c (Some k) d (Some n) = folded at t (shift_of op (number_kind (underlying ns t)) k n)
  shift_typed at op t c v d w = value (core.binary op t c d) t None

  abbrev pub shift_constant : Place → Op → Const → Expr → Option Const → Answer
  shift_constant at op k d (Some n) = folded_untyped at (shift_of op None k n)
  shift_constant at op k d None = pending (shifted at op k d) (basis_of k)

  abbrev pub shift_counted : Place → Op → Operand → Expr → Option Const → Answer
  shift_counted at op (typed c t v) d w = if is_int (underlying ns t) then shift_typed at op t c v d w else bad at 57
  shift_counted at op (constant_operand k) d w = if is_number k then shift_constant at op k d w else bad at 57
  shift_counted at op (truth_operand c) d w = bad at 57
  shift_counted at op (pending_operand p b) d w = pending (further op p d) b
  shift_counted at op nil_operand d w = bad at 57

  -- whether the operand can be shifted
  abbrev pub can_shift : Operand → Bool
  can_shift (typed c t v) = is_int (underlying ns t)
  can_shift (constant_operand k) = is_number k
  can_shift (truth_operand c) = false
  can_shift (pending_operand p b) = true
  can_shift nil_operand = false

  abbrev pub shift_operands : Place → Op → Operand → Place → Count → Answer
  shift_operands at op x q (counted d w) = shift_counted at op x d w
  shift_operands at op x q negative = if can_shift x then bad q 33 else bad at 57
  shift_operands at op x q no_integer = bad at 57
  shift_operands at op x q (unfit f fs) = wrong f fs

  -- p and q are the places of operand and count
  abbrev pub shift_single : Place → Op → Place → Option Operand → Place → Option Operand → Answer
  shift_single at op p (Some x) q (Some y) = unless (no_type p x) (shift_operands at op x q (count_of q y))
  shift_single at op p x q y = unless (no_value p x ++ no_value q y) (bad at 57)

  -- of the left operand's type; an untyped constant that is shifted by a count that is none waits for its type (57; 33
  -- and 32 at the count)
  abbrev pub shift_row : Place → Op → Part → Part → Answer
  shift_row at op x y = where_known (is_known x.answer && is_known y.answer) (shift_single at op x.place (single x.answer) y.place (single y.answer))
