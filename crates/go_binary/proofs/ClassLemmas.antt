-- The rows of operators, by class, and by whether both operands are typed.
use Rattle.std.proofs.Common.{◌≡◌, ◌∙◌, refl, ap, rules, List}
use Rattle.std.specs.Prelude.{true, false, ◌&&◌, Some, None, IsTrue}
use Rattle.gj_base.specs.declared.place.Place.{Place}
use Rattle.gj_base.specs.declared.kind.Op.{Op}
use Rattle.gj_base.specs.declared.kind.Op.TheVariants as operator
use Rattle.go_const.specs.Operation.{is_shift}
use Rattle.go_type.specs.Named.{NamedTy}
use Rattle.go_typing.specs.Answer.{Answer, Part, untyped_part, is_known, where_known}
use Rattle.go_typing.specs.Operand.{Operand, single}
use Rattle.go_typing.specs.Binary.{OpClass, Arithmetic, Comparison, Logical, matched, on_operands, on_singles, binary_row}
use Rattle.go_typing.specs.Shift.{shift_row}
use Rattle.go_typing.specs.Typing.{operator_row}
use Rattle.go_operands.specs.Parts.{part}
use Rattle.go_binary.specs.ClassView.{compares, on_match, class_of, row_of}

pub by_match : (ns : List NamedTy) (class : OpClass) (at : Place) (op : Op) (p : Place) (x : Operand) (q : Place) (y : Operand) → on_operands ns class at op p x q y ≡ on_match ns class at op q (matched ns (compares class) p x q y)
by_match ns Arithmetic at op p x q y = refl
by_match ns Comparison at op p x q y = refl
by_match ns Logical at op p x q y = refl

pub known_row : (ns : List NamedTy) (class : OpClass) (at : Place) (op : Op) (p q : Place) (a b : Answer) → (is_known a && is_known b) ≡ true → binary_row ns class at op (part p a) (part q b) ≡ on_singles ns class at op p (single a) q (single b)
known_row ns class at op p q a b h = ap (λ k. where_known k (on_singles ns class at op p (single a) q (single b))) h

pub unknown_row : (ns : List NamedTy) (class : OpClass) (at : Place) (op : Op) (p q : Place) (a b : Answer) → (is_known a && is_known b) ≡ false → binary_row ns class at op (part p a) (part q b) ≡ untyped_part
unknown_row ns class at op p q a b h = ap (λ k. where_known k (on_singles ns class at op p (single a) q (single b))) h

-- the row of each operator
by_class : (ns : List NamedTy) (at : Place) (op : Op) (x y : Part) → operator_row ns at op x y ≡ row_of ns (class_of op) at op x y
by_class ns at operator.Add x y = refl
by_class ns at operator.Sub x y = refl
by_class ns at operator.Mul x y = refl
by_class ns at operator.Div x y = refl
by_class ns at operator.Rem x y = refl
by_class ns at operator.And x y = refl
by_class ns at operator.Or x y = refl
by_class ns at operator.Xor x y = refl
by_class ns at operator.AndNot x y = refl
by_class ns at operator.Shl x y = refl
by_class ns at operator.Shr x y = refl
by_class ns at operator.Eq x y = refl
by_class ns at operator.Ne x y = refl
by_class ns at operator.Lt x y = refl
by_class ns at operator.Le x y = refl
by_class ns at operator.Gt x y = refl
by_class ns at operator.Ge x y = refl
by_class ns at operator.AndThen x y = refl
by_class ns at operator.OrElse x y = refl
by_class ns at operator.Plus x y = refl
by_class ns at operator.Neg x y = refl
by_class ns at operator.Not x y = refl
by_class ns at operator.Compl x y = refl
by_class ns at (operator.To k) x y = refl

pub class_row : (ns : List NamedTy) (class : OpClass) (at : Place) (op : Op) (x y : Part) → class_of op ≡ Some class → operator_row ns at op x y ≡ binary_row ns class at op x y
class_row ns class at op x y h = by_class ns at op x y ∙ ap (λ c. row_of ns c at op x y) h

pub no_class_row : (ns : List NamedTy) (at : Place) (op : Op) (x y : Part) → class_of op ≡ None → operator_row ns at op x y ≡ shift_row ns at op x y
no_class_row ns at op x y h = by_class ns at op x y ∙ ap (λ c. row_of ns c at op x y) h

pub no_class_shifts : (op : Op) → class_of op ≡ None → IsTrue (is_shift op)
no_class_shifts operator.Add h = absurd (cc)
no_class_shifts operator.Sub h = absurd (cc)
no_class_shifts operator.Mul h = absurd (cc)
no_class_shifts operator.Div h = absurd (cc)
no_class_shifts operator.Rem h = absurd (cc)
no_class_shifts operator.And h = absurd (cc)
no_class_shifts operator.Or h = absurd (cc)
no_class_shifts operator.Xor h = absurd (cc)
no_class_shifts operator.AndNot h = absurd (cc)
no_class_shifts operator.Shl h = search rules
no_class_shifts operator.Shr h = search rules
no_class_shifts operator.Eq h = absurd (cc)
no_class_shifts operator.Ne h = absurd (cc)
no_class_shifts operator.Lt h = absurd (cc)
no_class_shifts operator.Le h = absurd (cc)
no_class_shifts operator.Gt h = absurd (cc)
no_class_shifts operator.Ge h = absurd (cc)
no_class_shifts operator.AndThen h = absurd (cc)
no_class_shifts operator.OrElse h = absurd (cc)
no_class_shifts operator.Plus h = absurd (cc)
no_class_shifts operator.Neg h = absurd (cc)
no_class_shifts operator.Not h = absurd (cc)
no_class_shifts operator.Compl h = absurd (cc)
no_class_shifts (operator.To k) h = absurd (cc)
