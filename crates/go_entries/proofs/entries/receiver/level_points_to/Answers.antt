use Rattle.go_type.specs.Levels.{tree_of}
use Rattle.go_type.specs.Table.{places}
use Rattle.go_entries.proofs.ReceiverLemmas.{no_pointer}
use Rattle.go_entries.proofs.entries.receiver.level_points_to.Goals as goal

pub returns-in_default : goal.returns-in_default
returns-in_default c =
    let ts = places c.args.table.now in
    record { value = no_pointer ts c.args.g.now (tree_of ts c.args.target) c.in_default.not-Pointer }
