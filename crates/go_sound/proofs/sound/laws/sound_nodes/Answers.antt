use Rattle.go_sound.proofs.SoundNodes.{nodes_are_sound, wanted_are_sound, alone_are_sound, prints_are_sound}
use Rattle.go_sound.proofs.sound.laws.sound_nodes.Goals as goal

pub returns : goal.returns
returns c = record { nodes = nodes_are_sound; wanted = wanted_are_sound; alone = alone_are_sound; prints = prints_are_sound }
