use Rattle.std.proofs.Common.{sym}
use Rattle.go_type.specs.Levels.{tree_of}
use Rattle.go_sound_nodes.proofs.round.is_in_scope.Goals as goal

pub returns-in-Some : goal.returns-in-Some
returns-in-Some c = record { is = λ h ts. (tree_of ts c.in-Some._t, sym (c.in-Some.ensures.is ts)) }
