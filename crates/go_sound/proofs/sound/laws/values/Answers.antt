use Rattle.go_sound.proofs.SoundBodies.{values_are_sound, any_values_are_sound, conditions_are_sound}
use Rattle.go_sound.proofs.sound.laws.values.Goals as goal

pub returns : goal.returns
returns c = record { wanted = values_are_sound; any = any_values_are_sound; conditions = conditions_are_sound }
