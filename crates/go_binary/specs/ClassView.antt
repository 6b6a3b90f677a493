-- The classes of operators between operands.
use Rattle.std.specs.Prelude.{List, Bool, true, false, Option, Some, None}
use Rattle.gj_base.specs.declared.place.Place.{Place}
use Rattle.gj_base.specs.declared.kind.Op.{Op}
use Rattle.gj_base.specs.declared.kind.Op.TheVariants as operator
use Rattle.go_type.specs.Named.{NamedTy}
use Rattle.go_typing.specs.Answer.{Answer, Part}
use Rattle.go_typing.specs.Binary.{Match, arithmetic, comparison, logical, binary_row}
use Rattle.go_typing.specs.Shift.{shift_row}
use Rattle.go_typing.specs.Binary as rows
use Rattle.go_binary.specs.declared.rows.binary.OpClass.{OpClass}
use Rattle.go_binary.specs.declared.rows.binary.OpClass.TheVariants as classes

abbrev pub class_view : OpClass → rows.OpClass
class_view classes.Arithmetic = rows.Arithmetic
class_view classes.Comparison = rows.Comparison
class_view classes.Logical = rows.Logical

-- one operand may go to the type of the other
abbrev pub compares : rows.OpClass → Bool
compares rows.Comparison = true
compares _ = false

-- an operator between operands of one type
abbrev pub on_match : List NamedTy → rows.OpClass → Place → Op → Place → Match → Answer
on_match ns rows.Arithmetic at op q m = arithmetic ns at op q m
on_match ns rows.Comparison at op q m = comparison ns at op m
on_match ns rows.Logical at op q m = logical ns at op m

-- the class of an operator; shifts have none
abbrev pub class_of : Op → Option rows.OpClass
class_of operator.Shl = None
class_of operator.Shr = None
class_of operator.Eq = Some rows.Comparison
class_of operator.Ne = Some rows.Comparison
class_of operator.Lt = Some rows.Comparison
class_of operator.Le = Some rows.Comparison
class_of operator.Gt = Some rows.Comparison
class_of operator.Ge = Some rows.Comparison
class_of operator.AndThen = Some rows.Logical
class_of operator.OrElse = Some rows.Logical
class_of _ = Some rows.Arithmetic

-- the row of a class, and that of shifts
abbrev pub row_of : List NamedTy → Option rows.OpClass → Place → Op → Part → Part → Answer
row_of ns None at op x y = shift_row ns at op x y
row_of ns (Some class) at op x y = binary_row ns class at op x y
