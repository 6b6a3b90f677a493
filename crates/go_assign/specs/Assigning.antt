-- Own: assignments by left sides and values that are typed.
use Rattle.std.specs.Prelude.{◌≡◌, List, [], ◌∷◌, ◌++◌, Bool, true, false, ◌&&◌, Option, Some, None, map, if◌then◌else◌}
use Rattle.go_type.specs.Tree.{Ty, Tys, no_tys, more_tys}
use Rattle.go_type.specs.Named.{NamedTy}
use Rattle.go_type.specs.declared.table.TypeTable.{TypeTable}
use Rattle.go_core.specs.CoreTree as core
use Rattle.go_core.specs.CoreTree.{Target}
use Rattle.go_core.specs.CoreView.{target_view, expr_view, exprs_of}
use Rattle.go_core.specs.declared.node.CoreExpr.{CoreExpr}
use Rattle.go_core.specs.declared.statement.Target as code_target
use Rattle.gj_base.specs.declared.place.Place.{Place}
use Rattle.go_typing.specs.Answer.{Flaw, flaw}
use Rattle.go_operands.specs.AnswerView.{flaw_view}
use Rattle.go_operands.specs.declared.answers.answer.Flaw as code
use Rattle.go_walk.specs.WalkView.{Keeps}
use Rattle.go_typing.specs.Expressions.{Valued, core_of}
use Rattle.go_typing.specs.Assign.{Left, left_flaws, is_left, target_of, takes, where_typed}
use Rattle.go_expr.specs.Raw.{Raw}
use Rattle.go_assign.specs.Settled.{all_known, all_told, several_in}
use Rattle.go_assign.specs.LeftView.{fitted}

-- each left side with its value
abbrev pub paired : List NamedTy → List Left → List Raw → List (Left × Valued)
paired ns [] rs = []
paired ns (l ∷ ls) [] = []
paired ns (l ∷ ls) (r ∷ rs) = (l, fitted ns l r) ∷ paired ns ls rs

abbrev pub pair_targets : List (Left × Valued) → List Target
pair_targets [] = []
pair_targets (p ∷ ps) = target_of p.0 ∷ pair_targets ps

abbrev pub pair_values : List (Left × Valued) → List core.Expr
pair_values [] = []
pair_values (p ∷ ps) = core_of p.1.answer ∷ pair_values ps

abbrev pub pair_flaws : List (Left × Valued) → List Flaw
pair_flaws [] = []
pair_flaws (p ∷ ps) = p.1.flaws ++ pair_flaws ps

-- what is stored and told so far, with what is left, is all that is stored and told
pub record Stores (table : TypeTable) (rest all : List (Left × Valued)) (to to_now : List code_target.Target) (es es_now : List CoreExpr) (before after : List code.Flaw) : Type 0 where
  pub targets : (ts : List Ty) → Keeps table ts → map (target_view ts) to_now ++ pair_targets rest ≡ map (target_view ts) to ++ pair_targets all
  pub values : (ts : List Ty) → Keeps table ts → map (expr_view ts) es_now ++ pair_values rest ≡ map (expr_view ts) es ++ pair_values all
  pub told : map flaw_view after ++ pair_flaws rest ≡ map flaw_view before ++ pair_flaws all

-- ---- the several values of a call

abbrev pub all_flaws : List Left → List Flaw
all_flaws [] = []
all_flaws (l ∷ ls) = left_flaws l ++ all_flaws ls

abbrev pub all_targets : List Left → List Target
all_targets [] = []
all_targets (l ∷ ls) = target_of l ∷ all_targets ls

abbrev pub each_takes : List Left → Tys → Bool
each_takes (l ∷ ls) (more_tys u us) = takes l u && each_takes ls us
each_takes _ _ = true

abbrev pub as_many : List Left → Tys → Bool
as_many [] no_tys = true
as_many (l ∷ ls) (more_tys u us) = as_many ls us
as_many _ _ = false

abbrev pub as_many_values : List Left → List Raw → Bool
as_many_values [] [] = true
as_many_values (l ∷ ls) (r ∷ rs) = as_many_values ls rs
as_many_values _ _ = false

-- what is told and stored
pub record Gives : Type 0 where
  pub flaws : List Flaw
  pub core : List core.Stmt

abbrev pub all_left : List Left → Bool
all_left [] = true
all_left (l ∷ ls) = is_left l && all_left ls

-- the counts differ (84)
abbrev pub not_as_many : Place → List Left → List Raw → Gives
not_as_many at ls rs = record { flaws = where_typed (all_left ls && all_known rs) (all_flaws ls ++ all_told rs) (flaw at 84 ∷ []); core = [] }

abbrev pub store_gives : List Flaw → List Target → core.Exprs → Gives
store_gives fs gs es = record { flaws = fs; core = core.store gs es ∷ [] }

-- as many values as left sides
abbrev pub each_gives : List (Left × Valued) → Gives
each_gives ps = store_gives (pair_flaws ps) (pair_targets ps) (exprs_of (pair_values ps))

-- the several values of a call
abbrev pub call_gives : List Left → Raw → Tys → Gives
call_gives ls r us = store_gives (all_flaws ls ++ (if each_takes ls us then [] else flaw r.part.place 61 ∷ [])) (all_targets ls) (core.expr (core_of r.part.answer) core.no_exprs)

-- what comes of an assignment, by its left sides and values
abbrev pub assigned_by : List NamedTy → Place → List Left → List Raw → Option Tys → Gives
assigned_by ns at ls rs None = if as_many_values ls rs then each_gives (paired ns ls rs) else not_as_many at ls rs
assigned_by ns at ls [] (Some us) = not_as_many at ls []
assigned_by ns at ls (r ∷ rs) (Some us) = if as_many ls us then call_gives ls r us else not_as_many at ls (r ∷ rs)

abbrev pub assigned : List NamedTy → Place → List Left → List Raw → Gives
assigned ns at ls rs = assigned_by ns at ls rs (several_in rs)
