-- Go specification (as of Go 1.17), "Assignability", "Constants", "Types": parts where a value of a type, a value of
-- any type, or a type is wanted. The fault of a part that isn't what its place wants is told at that part.
use Rattle.std.specs.Prelude.{List, [], ◌∷◌, ◌++◌, Option, Some, None}
use Rattle.gj_base.specs.declared.place.Place.{Place}
use Rattle.go_type.specs.Tree.{Ty}
use Rattle.go_type.specs.Named.{NamedTy}
use Rattle.go_typing.specs.Answer.{Flaw, flaw, Answer, value, type_, wrong, untyped_part, bad, Part}
use Rattle.go_typing.specs.Operand.{Operand, nil_operand, single, Settled, settled, unsettled, settled_at, settled_alone, passed_at}

-- no value where one is wanted (52)
abbrev pub no_value : Place → Option Operand → List Flaw
no_value at None = flaw at 52 ∷ []
no_value at (Some x) = []

-- several operands

-- the parts that are no values (52)
abbrev pub no_values : List Part → List Flaw
no_values [] = []
no_values (x ∷ xs) = no_value x.place (single x.answer) ++ no_values xs

abbrev pub operand_in : Place → Option Operand → List (Place × Operand)
operand_in at None = []
operand_in at (Some x) = (at, x) ∷ []

-- each with its place
abbrev pub operands_of : List Part → List (Place × Operand)
operands_of [] = []
operands_of (x ∷ xs) = operand_in x.place (single x.answer) ++ operands_of xs

-- `nil` where nothing gives it a type (73)
abbrev pub no_type : Place → Operand → List Flaw
no_type at nil_operand = flaw at 73 ∷ []
no_type at x = []

abbrev pub settled_answer : Settled → Answer
settled_answer (settled c t v) = value c t v
settled_answer (unsettled f fs) = wrong f fs

module _ (ns : List NamedTy) where
  abbrev pub wanted_operand : Place → Ty → Option Operand → Answer
  wanted_operand at t None = bad at 52
  wanted_operand at t (Some x) = settled_answer (settled_at at t (passed_at ns at t x))

  -- a value of this type is wanted (61, and 32 for a constant that the type doesn't hold)
  abbrev pub wanted : Place → Ty → Answer → Answer
  wanted at t (wrong f fs) = untyped_part
  wanted at t untyped_part = untyped_part
  wanted at t a = wanted_operand at t (single a)

  abbrev pub alone_operand : Place → Option Operand → Answer
  alone_operand at None = bad at 52
  alone_operand at (Some x) = settled_answer (settled_alone ns at x)

  -- a value is wanted, of any type
  abbrev pub wanted_alone : Place → Answer → Answer
  wanted_alone at (wrong f fs) = untyped_part
  wanted_alone at untyped_part = untyped_part
  wanted_alone at a = alone_operand at (single a)

-- a type is wanted (51)
abbrev pub wanted_type : Place → Answer → Answer
wanted_type at (type_ t) = type_ t
wanted_type at (wrong f fs) = untyped_part
wanted_type at untyped_part = untyped_part
wanted_type at _ = bad at 51
