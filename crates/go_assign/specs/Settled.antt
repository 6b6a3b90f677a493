-- Own: what comes of an expression that is typed once its place wants something, and what several of them are.
use Rattle.std.specs.Prelude.{List, [], ◌∷◌, ◌++◌, Bool, true, ◌&&◌, map, Option, None}
use Rattle.go_type.specs.Tree.{Ty, Tys}
use Rattle.go_type.specs.Named.{NamedTy}
use Rattle.go_typing.specs.Answer.{Flaw, is_known}
use Rattle.go_typing.specs.Wanted.{wanted, wanted_alone, wanted_type}
use Rattle.go_operands.specs.AnswerView.{answer_view, flaw_view}
use Rattle.go_typing.specs.Expressions.{Valued, valued, several_types}
use Rattle.go_expr.specs.Raw.{Raw}
use Rattle.go_assign.specs.declared.valued.valued.Valued as code

abbrev pub valued_view : List Ty → code.Valued → Valued
valued_view ts v = record { answer = answer_view ts v.answer; flaws = map flaw_view v.flaws.items }

-- ---- where its place wants a value of a type, any value, or a type

abbrev pub at_type : List NamedTy → Ty → Raw → Valued
at_type ns u r = valued r.flaws (wanted ns r.part.place u r.part.answer)

abbrev pub alone : List NamedTy → Raw → Valued
alone ns r = valued r.flaws (wanted_alone ns r.part.place r.part.answer)

abbrev pub as_type : Raw → Valued
as_type r = valued r.flaws (wanted_type r.part.place r.part.answer)

-- ---- several

abbrev pub all_known : List Raw → Bool
all_known [] = true
all_known (r ∷ rs) = is_known r.part.answer && all_known rs

abbrev pub all_told : List Raw → List Flaw
all_told [] = []
all_told (r ∷ rs) = r.flaws ++ all_told rs

-- the several values of a call that stands alone
abbrev pub several_in : List Raw → Option Tys
several_in (r ∷ []) = several_types r.part.answer
several_in _ = None
