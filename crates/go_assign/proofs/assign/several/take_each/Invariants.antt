use Rattle.std.proofs.Common.{◌≡◌, ◌+◌, ◌++◌, ◌&&◌, List, drop, length, map}
use Rattle.go_type.specs.Tree.{Ty}
use Rattle.go_type.specs.Levels.{trees_of}
use Rattle.go_type.specs.Table.{size}
use Rattle.go_core.specs.CoreView.{target_view}
use Rattle.go_operands.specs.AnswerView.{flaw_view}
use Rattle.go_operands.specs.EnvView.{table_of}
use Rattle.go_calls.specs.Words.{types_of}
use Rattle.go_walk.specs.WalkView.{Keeps}
use Rattle.go_assign.specs.LeftView.{lefts_view, LeftsBelow}
use Rattle.go_assign.specs.Assigning.{each_takes, all_flaws, all_targets}
use Rattle.go_assign.proofs.assign.several.take_each.Given as goal

-- those that are left
abbrev pub invariant-loop-t : goal.invariant-loop-t
invariant-loop-t l = record {
  lefts : LeftsBelow (size (table_of l.env)) l.lefts;
  count : length l.lefts.items.items + l.t-index ≡ length l.types;
  takes : (l.all && each_takes (lefts_view (types_of l.env) l.lefts) (trees_of (types_of l.env) (drop l.t-index l.types))) ≡ each_takes (lefts_view (types_of l.env) l.initial.lefts) (trees_of (types_of l.env) l.types);
  told : map flaw_view l.flaws.items ++ all_flaws (lefts_view (types_of l.env) l.lefts) ≡ map flaw_view l.initial.flaws.items ++ all_flaws (lefts_view (types_of l.env) l.initial.lefts);
  targets : (ts : List Ty) → Keeps (table_of l.env) ts → map (target_view ts) l.targets.items ++ all_targets (lefts_view (types_of l.env) l.lefts) ≡ map (target_view ts) l.initial.targets.items ++ all_targets (lefts_view (types_of l.env) l.initial.lefts);
}
