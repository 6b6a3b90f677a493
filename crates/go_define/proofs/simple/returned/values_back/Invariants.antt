use Rattle.std.proofs.Common.{◌≡◌, ◌++◌, List, map, drop}
use Rattle.go_type.specs.Tree.{Ty}
use Rattle.go_type.specs.Levels.{trees_of}
use Rattle.go_type.specs.Table.{size}
use Rattle.go_core.specs.CoreView.{expr_view}
use Rattle.go_operands.specs.EnvView.{table_of}
use Rattle.go_operands.specs.AnswerView.{flaw_view}
use Rattle.go_calls.specs.Words.{types_of, names_of}
use Rattle.go_walk.specs.WalkView.{Keeps}
use Rattle.go_expr.specs.Raw.{raws_view, RawsBelow}
use Rattle.go_define.specs.SimpleTold.{back_flaws, back_cores}
use Rattle.go_define.proofs.BackLemmas.{cores_before}
use Rattle.go_define.proofs.simple.returned.values_back.Given as goal

-- what is told so far, with what is left, and the same of the values
abbrev pub invariant-loop-t : goal.invariant-loop-t
invariant-loop-t l = record {
  told : map flaw_view l.flaws.items ++ back_flaws (names_of l.env) (trees_of (types_of l.env) (drop l.t-index l.results)) (raws_view (types_of l.env) l.raws)
      ≡ map flaw_view l.initial.flaws.items ++ back_flaws (names_of l.env) (trees_of (types_of l.env) l.results) (raws_view (types_of l.env) l.initial.raws);
  values : (ts : List Ty) → Keeps (table_of l.env) ts → cores_before (map (expr_view ts) l.values.items) (back_cores (names_of l.env) (trees_of (types_of l.env) (drop l.t-index l.results)) (raws_view (types_of l.env) l.raws))
      ≡ back_cores (names_of l.env) (trees_of (types_of l.env) l.results) (raws_view (types_of l.env) l.initial.raws);
  within : RawsBelow (size (table_of l.env)) l.raws;
}
