-- Own: what is told, and what is to do, by expressions that were typed before.
use Rattle.std.specs.Prelude.{ℕ, ◌==◌, List, [], ◌∷◌, ◌++◌, Bool, true, false, if◌then◌else◌, Option, Some, None}
use Rattle.gj_base.specs.declared.place.Place.{Place}
use Rattle.go_type.specs.Tree.{Ty, Tys, no_tys, more_tys}
use Rattle.go_type.specs.Named.{NamedTy}
use Rattle.go_core.specs.SameType.{same_types}
use Rattle.go_core.specs.CoreTree as core
use Rattle.go_typing.specs.Answer.{Flaw, flaw, Answer, value, does, wrong, untyped_part}
use Rattle.go_typing.specs.Typing.{Callee, a_function}
use Rattle.go_typing.specs.Expressions.{core_of}
use Rattle.go_typing.specs.Assign.{where_typed}
use Rattle.go_typing.specs.Statements.{values_of, count_types}
use Rattle.go_expr.specs.Raw.{Raw}
use Rattle.go_assign.specs.Settled.{at_type, all_known, all_told, several_in}

-- statements and faults
pub record Told : Type 0 where
  pub core : List core.Stmt
  pub flaws : List Flaw

abbrev pub told : List core.Stmt → Told
told ss = record { core = ss; flaws = [] }

abbrev pub fault : Place → ℕ → Told
fault at code = record { core = []; flaws = flaw at code ∷ [] }

-- a fault where all are typed and have none, else theirs
abbrev pub unless_told : Place → ℕ → List Raw → Told
unless_told at code rs = record { core = []; flaws = where_typed (all_known rs) (all_told rs) (flaw at code ∷ []) }

-- ---- expression statements

abbrev pub is_function : Callee → Bool
is_function (a_function id ps rs variadic) = true
is_function c = false

-- the type of what is performed: a call of a function
abbrev pub performed_type : Bool → Answer → Option Ty
performed_type true (value c u v) = Some u
performed_type b a = None

abbrev pub performed : Bool → Place → Answer → Told
performed true at (value c u v) = told (core.perform c (values_of u) ∷ [])
performed b at (does s) = told (s ∷ [])
performed b at (wrong f fs) = told []
performed b at untyped_part = told []
performed b at a = fault at 93

abbrev pub one_performed : Bool → Raw → Told
one_performed b r = record { core = (performed b r.part.place r.part.answer).core; flaws = r.flaws ++ (performed b r.part.place r.part.answer).flaws }

-- ---- `return`

abbrev pub same_count : List Raw → Tys → Bool
same_count [] no_tys = true
same_count (r ∷ rs) (more_tys u us) = same_count rs us
same_count _ _ = false

-- each where a value of its type is wanted
abbrev pub back_flaws : List NamedTy → Tys → List Raw → List Flaw
back_flaws ns (more_tys u us) (r ∷ rs) = (at_type ns u r).flaws ++ back_flaws ns us rs
back_flaws ns _ _ = []

abbrev pub back_cores : List NamedTy → Tys → List Raw → core.Exprs
back_cores ns (more_tys u us) (r ∷ rs) = core.expr (core_of (at_type ns u r).answer) (back_cores ns us rs)
back_cores ns _ _ = core.no_exprs

abbrev pub back_each : List NamedTy → Place → Tys → List Raw → Told
back_each ns at us rs = if same_count rs us then record { core = core.return_ (back_cores ns us rs) ∷ []; flaws = back_flaws ns us rs } else unless_told at 88 rs

-- the several values of a call
abbrev pub whole_told : Tys → Tys → Raw → Told
whole_told us vs r = if same_types us vs then told (core.return_ (core.expr (core_of r.part.answer) core.no_exprs) ∷ []) else fault r.part.place 61

abbrev pub first_told : Tys → Tys → List Raw → Told
first_told us vs [] = told []
first_told us vs (r ∷ rs) = whole_told us vs r

abbrev pub back_several : Place → Tys → List Raw → Tys → Told
back_several at us rs vs = if count_types us == count_types vs then first_told us vs rs else unless_told at 88 rs

abbrev pub back_by : List NamedTy → Place → Tys → List Raw → Option Tys → Told
back_by ns at us rs None = back_each ns at us rs
back_by ns at us rs (Some vs) = back_several at us rs vs

abbrev pub back : List NamedTy → Place → Tys → List Raw → Told
back ns at us rs = back_by ns at us rs (several_in rs)
