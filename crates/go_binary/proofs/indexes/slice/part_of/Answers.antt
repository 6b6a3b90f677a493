use Rattle.std.specs.Prelude.{None, option_map}
use Rattle.go_type.specs.Levels.{tree_of}
use Rattle.go_type.specs.Table.{places}
use Rattle.go_core.specs.CoreTree as core
use Rattle.go_core.specs.CoreView.{expr_view, bound_of}
use Rattle.go_core.specs.declared.node.CoreForm.TheVariants as node
use Rattle.go_binary.proofs.SliceNodes.{node_made, slice_view}
use Rattle.go_binary.proofs.indexes.slice.part_of.Goals as goal

pub returns : goal.returns
returns c =
    let ts = places c.args.table.now in
    let t = c.args.t in
    record { value = node_made c.expression.result (node.SliceOf t t c.args.c c.args.low c.args.high None) ts (core.slice_of (tree_of ts t) (tree_of ts t) (expr_view ts c.args.c) (bound_of (option_map (expr_view ts) c.args.low)) (bound_of (option_map (expr_view ts) c.args.high)) core.no_bound) (slice_view ts t c.args.c c.args.low c.args.high) c.expression.ensures.value }
