-- Own: what comes of names on the left of `:=` and values that are typed, name by name.
use Rattle.std.specs.Prelude.{◌≡◌, List, [], ◌∷◌, ◌++◌, Bool, true, false, ◌&&◌, Option, Some, None, map, if◌then◌else◌}
use Rattle.gj_base.specs.declared.place.Place.{Place}
use Rattle.go_type.specs.Tree.{Ty, Tys, no_tys, more_tys}
use Rattle.go_type.specs.Named.{NamedTy}
use Rattle.go_core.specs.CoreTree as core
use Rattle.go_core.specs.CoreTree.{Target, blank}
use Rattle.go_core.specs.CoreView.{stmt_view, target_view, exprs_of}
use Rattle.go_core.specs.declared.statement.CoreStmt.{CoreStmt}
use Rattle.go_core.specs.declared.statement.Target as code_target
use Rattle.go_typing.specs.Answer.{Flaw, flaw}
use Rattle.go_operands.specs.AnswerView.{flaw_view}
use Rattle.go_operands.specs.declared.answers.answer.Flaw as code
use Rattle.go_operands.specs.EnvView.{table_of}
use Rattle.go_typing.specs.Walk as go
use Rattle.go_typing.specs.Walk.{Did, is_there, faulty}
use Rattle.go_typing.specs.Expressions.{Valued, type_of, core_of}
use Rattle.go_typing.specs.Assign.{target_of, left_flaws, takes, where_typed}
use Rattle.go_typing.specs.Declare.{declare_one, declare_stmts, declare_target}
use Rattle.go_walk.specs.WalkView.{walk_of, depth, Keeps}
use Rattle.go_walk.specs.declared.walk.walk.Walk.{Walk}
use Rattle.go_expr.specs.Raw.{Raw}
use Rattle.go_assign.specs.Settled.{alone, all_known, all_told}
use Rattle.go_assign.specs.LeftView.{fitted}
use Rattle.go_define.specs.FreshView.{Spot, new_spot, old_spot, blank_spot, other_spot, spots_typed}

-- ---- one name

-- a name with the type of its value, if that is known, and what is told of both
pub record Take : Type 0 where
  pub spot : Spot
  pub type_ : Option Ty
  pub flaws : List Flaw

-- a new name declares a variable, unless its scope has it by now
abbrev pub spot_stmts : go.Walk → Spot → Option Ty → List core.Stmt
spot_stmts u (new_spot n) o = declare_stmts (is_there n u) u o
spot_stmts u (old_spot l) o = []
spot_stmts u blank_spot o = []
spot_stmts u other_spot o = []

abbrev pub spot_target : go.Walk → Spot → Option Ty → Target
spot_target u (new_spot n) o = declare_target (is_there n u) u o
spot_target u (old_spot l) o = target_of l
spot_target u blank_spot o = blank
spot_target u other_spot o = blank

abbrev pub spot_walk : Spot → Option Ty → go.Walk → go.Walk
spot_walk (new_spot n) o u = declare_one n (is_there n u) o u
spot_walk (old_spot l) o u = u
spot_walk blank_spot o u = u
spot_walk other_spot o u = u

-- ---- all of them

pub record Done : Type 0 where
  pub before : List core.Stmt
  pub targets : List Target
  pub walk : go.Walk

abbrev pub one_done : List core.Stmt → Target → Done → Done
one_done ss g d = record { before = ss ++ d.before; targets = g ∷ d.targets; walk = d.walk }

abbrev pub done : List Take → go.Walk → Done
done [] u = record { before = []; targets = []; walk = u }
done (k ∷ ks) u = one_done (spot_stmts u k.spot k.type_) (spot_target u k.spot k.type_) (done ks (spot_walk k.spot k.type_ u))

abbrev pub take_flaws : List Take → List Flaw
take_flaws [] = []
take_flaws (k ∷ ks) = k.flaws ++ take_flaws ks

-- what is declared, stored and told so far, with what is left, is all of it
pub record Defines (rest all : List Take) (old new : Walk) (to to_now : List code_target.Target) (before after : List code.Flaw) (have now : List CoreStmt) : Type 0 where
  pub stmts : (ts : List Ty) → Keeps (table_of new.env) ts → map (stmt_view ts) now ++ (done rest (walk_of ts new)).before ≡ map (stmt_view ts) have ++ (done all (walk_of ts old)).before
  pub targets : (ts : List Ty) → Keeps (table_of new.env) ts → map (target_view ts) to_now ++ (done rest (walk_of ts new)).targets ≡ map (target_view ts) to ++ (done all (walk_of ts old)).targets
  pub told : map flaw_view after ++ take_flaws rest ≡ map flaw_view before ++ take_flaws all
  pub walk : (ts : List Ty) → Keeps (table_of new.env) ts → (done rest (walk_of ts new)).walk ≡ (done all (walk_of ts old)).walk
  pub depth : depth new ≡ depth old
  pub table : table_of new.env ≡ table_of old.env

-- ---- each with its value

abbrev pub spot_valued : List NamedTy → Spot → Raw → Valued
spot_valued ns (new_spot n) r = alone ns r
spot_valued ns (old_spot l) r = fitted ns l r
spot_valued ns blank_spot r = alone ns r
spot_valued ns other_spot r = alone ns r

abbrev pub valued_take : Spot → Valued → Take
valued_take s v = record { spot = s; type_ = type_of v.answer; flaws = v.flaws }

abbrev pub value_takes : List NamedTy → List Spot → List Raw → List Take
value_takes ns [] rs = []
value_takes ns (s ∷ ss) [] = []
value_takes ns (s ∷ ss) (r ∷ rs) = valued_take s (spot_valued ns s r) ∷ value_takes ns ss rs

abbrev pub value_cores : List NamedTy → List Spot → List Raw → List core.Expr
value_cores ns [] rs = []
value_cores ns (s ∷ ss) [] = []
value_cores ns (s ∷ ss) (r ∷ rs) = core_of (spot_valued ns s r).answer ∷ value_cores ns ss rs

-- ---- the several values of a call that stands at p

abbrev pub type_flaws : Place → Spot → Ty → List Flaw
type_flaws p (new_spot n) u = []
type_flaws p (old_spot l) u = left_flaws l ++ (if takes l u then [] else flaw p 61 ∷ [])
type_flaws p blank_spot u = []
type_flaws p other_spot u = []

abbrev pub type_take : Place → Spot → Ty → Take
type_take p s u = record { spot = s; type_ = Some u; flaws = type_flaws p s u }

abbrev pub type_takes : Place → List Spot → Tys → List Take
type_takes p [] us = []
type_takes p (s ∷ ss) no_tys = []
type_takes p (s ∷ ss) (more_tys u us) = type_take p s u ∷ type_takes p ss us

-- ---- the statement, by the names and the values

-- the faults of the names come last
abbrev pub defined : List Flaw → List Take → core.Exprs → go.Walk → Did
defined fs ks es u = record { core = (done ks u).before ++ core.store (done ks u).targets es ∷ []; flaws = take_flaws ks ++ fs; walk = (done ks u).walk }

-- no value is known for the names
abbrev pub unknowns : List Spot → go.Walk → go.Walk
unknowns [] u = u
unknowns (s ∷ ss) u = unknowns ss (spot_walk s None u)

-- what is told of names that can't be assigned
abbrev pub spot_flaws : Spot → List Flaw
spot_flaws (old_spot l) = left_flaws l
spot_flaws _ = []

abbrev pub spots_flaws : List Spot → List Flaw
spots_flaws [] = []
spots_flaws (s ∷ ss) = spot_flaws s ++ spots_flaws ss

-- a fault of the statement, told where its sides are typed, with what is told of these; fs: of the names
abbrev pub parts_flaws : Flaw → List Flaw → List Spot → List Raw → List Flaw
parts_flaws f fs ss rs = where_typed (spots_typed ss && all_known rs) (all_told rs ++ fs) (f ∷ []) ++ spots_flaws ss

-- the counts differ (84)
abbrev pub not_defined : Place → List Flaw → List Spot → List Raw → go.Walk → Did
not_defined at fs ss rs u = faulty (parts_flaws (flaw at 84) fs ss rs) (unknowns ss u)

abbrev pub as_many_values : List Spot → List Raw → Bool
as_many_values [] [] = true
as_many_values (s ∷ ss) (r ∷ rs) = as_many_values ss rs
as_many_values _ _ = false

abbrev pub as_many_types : List Spot → Tys → Bool
as_many_types [] no_tys = true
as_many_types (s ∷ ss) (more_tys u us) = as_many_types ss us
as_many_types _ _ = false

abbrev pub defined_by : List NamedTy → Place → List Flaw → List Spot → List Raw → Option Tys → go.Walk → Did
defined_by ns at fs ss rs None u = if as_many_values ss rs then defined fs (value_takes ns ss rs) (exprs_of (value_cores ns ss rs)) u else not_defined at fs ss rs u
defined_by ns at fs ss [] (Some us) u = not_defined at fs ss [] u
defined_by ns at fs ss (r ∷ rs) (Some us) u = if as_many_types ss us then defined fs (type_takes r.part.place ss us) (core.expr (core_of r.part.answer) core.no_exprs) u else not_defined at fs ss (r ∷ rs) u
