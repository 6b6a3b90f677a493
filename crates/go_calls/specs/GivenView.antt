-- What a call is given, where each argument is typed.
use Rattle.std.specs.Prelude.{List, [], ◌∷◌, Bool, true, false, Option, Some, None, if◌then◌else◌}
use Rattle.gj_base.specs.declared.place.Place.{Place}
use Rattle.go_type.specs.Tree as ty
use Rattle.go_type.specs.Tree.{Ty, Tys, more_tys}
use Rattle.go_typing.specs.Answer.{Flaw, Answer, wrong, untyped_part, Part, all_known}
use Rattle.go_typing.specs.Operand.{Operand}
use Rattle.go_typing.specs.Wanted.{no_values, operands_of}
use Rattle.go_typing.specs.Call.{Given, each, no_givens, given, values_of}
use Rattle.go_operands.specs.AnswerView.{flaws_view, first_of, others_of}
use Rattle.go_calls.specs.CallView.{operands_view}
use Rattle.go_calls.specs.declared.given.kinds.Operands.{Operands}
use Rattle.go_calls.specs.declared.given.kinds.Operands.TheVariants as code

-- the operands of a call, as far as each argument is one
pub data Handed : Type 0 where
  handed : List (Place × Operand) → Handed
  refused_part : Flaw → List Flaw → Handed
  unknown_part : Handed

abbrev pub is_value : Option Operand → Bool
is_value None = false
is_value (Some x) = true

abbrev pub is_some : {A : Type 0} → Option A → Bool
is_some None = false
is_some (Some x) = true

-- the type of one value
abbrev pub is_one : Ty → Bool
is_one (ty.tuple ts) = false
is_one _ = true

-- the type of several values
abbrev pub is_several : Ty → Bool
is_several (ty.tuple (more_tys t (more_tys u ts))) = true
is_several _ = false

-- the one part is the several values of a call
abbrev pub has_several : List Part → Bool
has_several (x ∷ []) = is_some (values_of x.answer)
has_several _ = false

abbrev pub handed_unless : List Flaw → Handed → Handed
handed_unless [] h = h
handed_unless (f ∷ fs) h = refused_part f fs

abbrev pub operands_given : List Part → Handed
operands_given xs = if all_known xs then handed_unless (no_values xs) (handed (operands_of xs)) else unknown_part

abbrev pub operands_or_not : List Ty → Operands → Handed
operands_or_not ts (code.Each xs) = handed (operands_view ts xs.items)
operands_or_not ts (code.Refused fs) = refused_part (first_of (flaws_view fs)) (others_of (flaws_view fs))
operands_or_not ts code.Unknown = unknown_part

abbrev pub given_or_not : List Part → Option Given
given_or_not xs = if all_known xs then Some (given xs) else None

-- operands as what is given
abbrev pub given_by : Handed → Option Given
given_by (handed xs) = Some (each xs)
given_by (refused_part f fs) = Some (no_givens f fs)
given_by unknown_part = None

-- what comes of what is given, where each argument is typed
abbrev pub on_given : Option Given → (Given → Answer) → Answer
on_given None f = untyped_part
on_given (Some g) f = f g

-- what comes of operands
abbrev pub on_handed : Handed → (List (Place × Operand) → Answer) → Answer
on_handed (handed xs) f = f xs
on_handed (refused_part g gs) f = wrong g gs
on_handed unknown_part f = untyped_part
