use Rattle.std.proofs.Common.{drop, map}
use Rattle.go_type.specs.Table.{places}
use Rattle.go_core.specs.CoreView.{expr_view, exprs_of, program_view}
use Rattle.go_core.specs.TypeOf.{all_types}
use Rattle.go_core.specs.Sound.{ArePrintable}
use Rattle.go_sound_nodes.proofs.targets.all_print.Given as goal

abbrev pub invariant-loop-e : goal.invariant-loop-e
invariant-loop-e l =
    let q = program_view l.p in
    let ts = places l.p.types in
    ArePrintable q (all_types q.names (exprs_of (map (expr_view ts) (drop l.e-index l.e-items)))) → ArePrintable q (all_types q.names (exprs_of (map (expr_view ts) l.e-items)))
