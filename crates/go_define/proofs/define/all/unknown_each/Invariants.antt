use Rattle.std.proofs.Common.{◌≡◌, ◌<◌, ◌++◌, List, map, vec_len}
use Rattle.go_operands.specs.AnswerView.{flaw_view}
use Rattle.go_type.specs.Tree.{Ty}
use Rattle.go_type.specs.Table.{size}
use Rattle.go_operands.specs.EnvView.{table_of}
use Rattle.go_calls.specs.Words.{types_of}
use Rattle.go_walk.specs.WalkView.{walk_of, depth, Keeps}
use Rattle.go_define.specs.FreshView.{freshes_view, FreshesBelow}
use Rattle.go_define.specs.Defining.{unknowns, spots_flaws}
use Rattle.go_define.proofs.define.all.unknown_each.Given as goal

-- those that are left
abbrev pub invariant-loop-fresh : goal.invariant-loop-fresh
invariant-loop-fresh l = record {
  opened : 0 < depth l.walk;
  freshes : FreshesBelow (size (table_of l.walk.env)) l.freshes;
  walk : (ts : List Ty) → Keeps (table_of l.walk.env) ts → unknowns (freshes_view (types_of l.walk.env) l.freshes) (walk_of ts l.walk) ≡ unknowns (freshes_view (types_of l.initial.walk.env) l.initial.freshes) (walk_of ts l.initial.walk);
  told : map flaw_view l.flaws.items ++ spots_flaws (freshes_view (types_of l.walk.env) l.freshes) ≡ map flaw_view l.initial.flaws.items ++ spots_flaws (freshes_view (types_of l.initial.walk.env) l.initial.freshes);
  same_depth : depth l.walk ≡ depth l.initial.walk;
  table : table_of l.walk.env ≡ table_of l.initial.walk.env;
}

abbrev pub decreases-loop-fresh : goal.decreases-loop-fresh
decreases-loop-fresh l = vec_len l.freshes.items
