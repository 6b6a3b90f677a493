use Rattle.std.proofs.Common.{drop, map}
use Rattle.go_core.specs.CoreView.{var_of}
use Rattle.go_core.specs.SoundNode.{AreDeclarable}
use Rattle.go_sound_nodes.specs.Around.{trees_in}
use Rattle.go_sound_nodes.proofs.judge.Judge.may_declare_all.Given as goal

abbrev pub invariant-loop-v : goal.invariant-loop-v
invariant-loop-v l =
    let d = map (var_of (trees_in l.self)) l.self.declarable.now in
    AreDeclarable (map (var_of (trees_in l.self)) (drop l.v-index l.vars)) d → AreDeclarable (map (var_of (trees_in l.self)) l.vars) d
