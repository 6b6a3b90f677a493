use Rattle.std.proofs.Common.{drop, map}
use Rattle.go_core.specs.CoreView.{expr_view, exprs_of, target_view}
use Rattle.go_core.specs.TypeOf.{all_types}
use Rattle.go_core.specs.Sound.{SoundTargets}
use Rattle.go_sound_nodes.specs.Around.{around, program_in, trees_in}
use Rattle.go_sound_nodes.specs.Known.{Knows}
use Rattle.go_sound_nodes.proofs.judge.Judge.all_take.Given as goal

abbrev pub invariant-loop-e : goal.invariant-loop-e
invariant-loop-e l =
    let q = program_in l.self in
    let ts = trees_in l.self in
    Knows l.self
    → SoundTargets q (around l.self l.round) (map (target_view ts) l.rest) (all_types q.names (exprs_of (map (expr_view ts) (drop l.e-index l.e-items))))
    → SoundTargets q (around l.self l.round) (map (target_view ts) l.targets.items.items) (all_types q.names (exprs_of (map (expr_view ts) l.e-items)))
