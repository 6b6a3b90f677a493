use Rattle.std.proofs.Common.{drop, map}
use Rattle.go_core.specs.declared.program.Program.{Program}
use Rattle.go_core.specs.CoreView.{id_of}
use Rattle.go_is_sound.specs.Facts.{Holds}
use Rattle.go_is_sound.specs.Bodies.{CapturedSoFar}
use Rattle.go_is_sound.proofs.bodies.captured_of.Given as goal

abbrev pub invariant-loop-v : goal.invariant-loop-v
invariant-loop-v l = (p : Program) → Holds p l.facts → CapturedSoFar p l.vars.items (map id_of (drop l.v-index l.v-items)) (map id_of l.v-items)
