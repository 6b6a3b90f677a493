use Rattle.go_player.proofs.ToldLemmas.{can_be_told}
use Rattle.go_player.proofs.player.play_folder.Goals as goal

pub refuse-requires : goal.refuse-requires
refuse-requires g c = can_be_told c.in-Err.refused c.args.folder.now _ _ c.in-Err.ensures
