use Rattle.std.proofs.Common.{drop}
use Rattle.go_core.specs.CoreView.{tests_of}
use Rattle.go_core.specs.Sound.{SoundTests}
use Rattle.go_sound_nodes.specs.ListView.{clauses_view}
use Rattle.go_sound_nodes.specs.Around.{around, program_in, trees_in}
use Rattle.go_sound_nodes.specs.Known.{Knows}
use Rattle.go_sound_nodes.proofs.judge.Judge.tests.Given as goal

abbrev pub invariant-loop-test : goal.invariant-loop-test
invariant-loop-test l =
    let ts = trees_in l.self in
    Knows l.self
    → SoundTests (program_in l.self) (around l.self l.round) (tests_of ts (drop l.test-index l.test-items)) (clauses_view ts l.clauses)
    → SoundTests (program_in l.self) (around l.self l.round) (tests_of ts l.test-items) (clauses_view ts l.clauses)
