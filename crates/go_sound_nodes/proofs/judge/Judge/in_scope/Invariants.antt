use Rattle.std.proofs.Common.{drop, map}
use Rattle.go_core.specs.CoreView.{id_of}
use Rattle.go_core.specs.SoundNode.{AreInScope}
use Rattle.go_sound_nodes.specs.Around.{trees_in, vars_in}
use Rattle.go_sound_nodes.proofs.judge.Judge.in_scope.Given as goal

abbrev pub invariant-loop-v : goal.invariant-loop-v
invariant-loop-v l = AreInScope (map id_of (drop l.v-index l.captured)) (vars_in (trees_in l.self) l.round) → AreInScope (map id_of l.captured) (vars_in (trees_in l.self) l.round)
