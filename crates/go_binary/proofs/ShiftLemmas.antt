-- A shift, by whether `nil` is shifted, and by whether both operands are typed.
use Rattle.std.proofs.Common.{◌≡◌, refl, ap, List}
use Rattle.std.specs.Prelude.{true, false, ◌&&◌, Some}
use Rattle.gj_base.specs.declared.place.Place.{Place}
use Rattle.gj_base.specs.declared.kind.Op.{Op}
use Rattle.go_type.specs.Named.{NamedTy}
use Rattle.go_typing.specs.Answer.{Answer, untyped_part, is_known, where_known, bad}
use Rattle.go_typing.specs.Operand.{Operand, typed, constant_operand, truth_operand, pending_operand, nil_operand, single}
use Rattle.go_typing.specs.Shift.{count_of, shift_operands, shift_single, shift_row}
use Rattle.go_operands.specs.Parts.{part}
use Rattle.go_binary.specs.CountView.{is_nil}

pub nil_shifted : (ns : List NamedTy) (at : Place) (op : Op) (p : Place) (x : Operand) (q : Place) (y : Operand) → is_nil x ≡ true → shift_single ns at op p (Some x) q (Some y) ≡ bad p 73
nil_shifted ns at op p (typed c t v) q y h = absurd (cc)
nil_shifted ns at op p (constant_operand k) q y h = absurd (cc)
nil_shifted ns at op p (truth_operand c) q y h = absurd (cc)
nil_shifted ns at op p (pending_operand n b) q y h = absurd (cc)
nil_shifted ns at op p nil_operand q y h = refl

pub other_shifted : (ns : List NamedTy) (at : Place) (op : Op) (p : Place) (x : Operand) (q : Place) (y : Operand) → is_nil x ≡ false → shift_single ns at op p (Some x) q (Some y) ≡ shift_operands ns at op x q (count_of ns q y)
other_shifted ns at op p (typed c t v) q y h = refl
other_shifted ns at op p (constant_operand k) q y h = refl
other_shifted ns at op p (truth_operand c) q y h = refl
other_shifted ns at op p (pending_operand n b) q y h = refl
other_shifted ns at op p nil_operand q y h = absurd (cc)

-- by whether both operands are typed
pub known_shift : (ns : List NamedTy) (at : Place) (op : Op) (p q : Place) (a b : Answer) → (is_known a && is_known b) ≡ true → shift_row ns at op (part p a) (part q b) ≡ shift_single ns at op p (single a) q (single b)
known_shift ns at op p q a b h = ap (λ k. where_known k (shift_single ns at op p (single a) q (single b))) h

pub unknown_shift : (ns : List NamedTy) (at : Place) (op : Op) (p q : Place) (a b : Answer) → (is_known a && is_known b) ≡ false → shift_row ns at op (part p a) (part q b) ≡ untyped_part
unknown_shift ns at op p q a b h = ap (λ k. where_known k (shift_single ns at op p (single a) q (single b))) h
