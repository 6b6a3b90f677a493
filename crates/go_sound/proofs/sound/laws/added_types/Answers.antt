use Rattle.go_sound.proofs.AddedTypes.{added_types_change_nothing, added_types_tell_nothing}
use Rattle.go_sound.proofs.sound.laws.added_types.Goals as goal

pub returns : goal.returns
returns c = record { typed = added_types_change_nothing; told = added_types_tell_nothing }
