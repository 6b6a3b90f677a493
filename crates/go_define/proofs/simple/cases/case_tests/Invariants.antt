use Rattle.std.proofs.Common.{List, map, drop}
use Rattle.std.specs.Prelude.{option_map}
use Rattle.go_const.specs.declared.constant.Const.{Const}
use Rattle.go_syntax.specs.View.{expr_view, exprs_of}
use Rattle.go_type.specs.Tree.{Ty}
use Rattle.go_type.specs.Levels.{tree_of}
use Rattle.go_operands.specs.EnvView.{table_of}
use Rattle.go_calls.specs.Words.{types_of}
use Rattle.go_walk.specs.WalkView.{walk_of}
use Rattle.go_assign.specs.Passed.{Passes, stays}
use Rattle.go_define.specs.CaseView.{HasAll, CasesLeft}
use Rattle.go_define.proofs.simple.cases.case_tests.Given as goal

-- the walk stays, and those that are left add what all do
abbrev pub invariant-loop-x : goal.invariant-loop-x
invariant-loop-x l = record {
  passes : Passes stays l.initial.walk l.walk;
  cases : (us : List Ty) (ks : List Const) → HasAll l.initial.seen ks
      → CasesLeft (walk_of us l.initial.walk) l.tag.0 (option_map (tree_of (types_of l.initial.walk.env)) l.ty) l.number (exprs_of (map expr_view l.xs)) (exprs_of (map expr_view (drop l.x-index l.xs))) ks (table_of l.walk.env) l.initial.flaws.items l.flaws.items l.initial.tests.items l.tests.items l.seen;
}
