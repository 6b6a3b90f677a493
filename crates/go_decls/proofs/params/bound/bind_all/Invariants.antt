use Rattle.std.proofs.Common.{◌≡◌, List, drop, map}
use Rattle.go_type.specs.Tree.{Ty}
use Rattle.go_items.specs.ParamView.{grouped_view}
use Rattle.go_typing.specs.Signature.{type_of_param, all_bound}
use Rattle.go_operands.specs.EnvView.{table_of}
use Rattle.go_typing.specs.Walk as go
use Rattle.go_walk.specs.WalkView.{walk_of, depth, Keeps}
use Rattle.go_decls.specs.Bound.{type_view}
use Rattle.go_decls.proofs.params.bound.bind_all.Given as goal

abbrev pub invariant-loop-i : goal.invariant-loop-i
invariant-loop-i l = record {
  value : (ts : List Ty) (w : go.Walk) → Keeps (table_of l.initial.walk.env) ts → map (type_view ts) l.types ≡ map (type_of_param w) (map grouped_view l.params)
      → all_bound w (map grouped_view (drop l.i l.params)) (walk_of ts l.walk) ≡ all_bound w (map grouped_view l.params) (walk_of ts l.initial.walk);
  depth : depth l.walk ≡ depth l.initial.walk;
  table : table_of l.walk.env ≡ table_of l.initial.walk.env;
}
