use Rattle.std.proofs.Common.{drop, map}
use Rattle.go_type.specs.Levels.{tree_of}
use Rattle.go_core.specs.CoreView.{elements_of, exprs_of, expr_view, pairs_of}
use Rattle.go_core.specs.Sound.{SoundElements, SoundExprs, SoundPairs}
use Rattle.go_sound_nodes.specs.Around.{around, program_in, trees_in}
use Rattle.go_sound_nodes.specs.Known.{Knows}
use Rattle.go_sound_nodes.specs.ListView.{element_view, pair_view}
use Rattle.go_sound_nodes.proofs.judge.Judge.+expr.Given as goal

abbrev pub invariant-exprs-loop-e : goal.invariant-exprs-loop-e
invariant-exprs-loop-e l =
    let ts = trees_in l.self in
    Knows l.self
    → SoundExprs (program_in l.self) (around l.self l.round) (exprs_of (map (expr_view ts) (drop l.e-index l.e-items)))
    → SoundExprs (program_in l.self) (around l.self l.round) (exprs_of (map (expr_view ts) l.e-items))

abbrev pub invariant-elements-loop-x : goal.invariant-elements-loop-x
invariant-elements-loop-x l =
    let ts = trees_in l.self in
    Knows l.self
    → SoundElements (program_in l.self) (around l.self l.round) (tree_of ts l.t) l.count (elements_of (map (element_view ts) (drop l.x-index l.x-items)))
    → SoundElements (program_in l.self) (around l.self l.round) (tree_of ts l.t) l.count (elements_of (map (element_view ts) l.x-items))

abbrev pub invariant-pairs-loop-x : goal.invariant-pairs-loop-x
invariant-pairs-loop-x l =
    let ts = trees_in l.self in
    Knows l.self
    → SoundPairs (program_in l.self) (around l.self l.round) (tree_of ts l.t) (pairs_of (map (pair_view ts) (drop l.x-index l.x-items)))
    → SoundPairs (program_in l.self) (around l.self l.round) (tree_of ts l.t) (pairs_of (map (pair_view ts) l.x-items))
