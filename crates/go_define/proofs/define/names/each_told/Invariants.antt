use Rattle.std.proofs.Common.{◌≡◌, ◌++◌, ℕ, List, [], Bool, false, drop, map}
use Rattle.go_syntax.specs.View.{expr_view, exprs_of}
use Rattle.go_typing.specs.Env.{is_blank}
use Rattle.go_operands.specs.AnswerView.{flaw_view}
use Rattle.go_walk.specs.SetsHas.{has_name}
use Rattle.go_typing.specs.Assign.{is_in, names_flaws}
use Rattle.go_walk.specs.WalkView.{walk_outside}
use Rattle.go_assign.specs.Moves.{Stays}
use Rattle.go_define.proofs.define.names.each_told.Given as goal

-- the names that stood before, and what is told so far with what is left
abbrev pub invariant-loop-x : goal.invariant-loop-x
invariant-loop-x l =
    (seen : List (List ℕ)) × ((y : List ℕ) → false ≡ is_blank y → has_name y l.seen ≡ is_in y seen)
    × (map flaw_view l.flaws.items ++ names_flaws (walk_outside l.initial.walk.env) seen (exprs_of (map expr_view (drop l.x-index l.xs))) ≡ map flaw_view l.initial.flaws.items ++ names_flaws (walk_outside l.initial.walk.env) [] (exprs_of (map expr_view l.xs)))
    × (Stays l.initial.walk l.walk)
