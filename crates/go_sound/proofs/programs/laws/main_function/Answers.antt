use Rattle.go_sound.proofs.Main.{main_is_plain}
use Rattle.go_sound.proofs.programs.laws.main_function.Goals as goal

pub returns : goal.returns
returns c = record { plain = main_is_plain }
