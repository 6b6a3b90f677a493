use Rattle.std.proofs.Common.{ap}
use Rattle.go_typing.specs.Checked.{told, least}
use Rattle.go_sound.proofs.LeastOf.{of_list, none_listed}
use Rattle.go_sound.proofs.sound.laws.least.Goals as goal

pub returns : goal.returns
returns c = record { least = λ ds f h. of_list (told ds) f h; none = λ ds. (λ h. none_listed (told ds) h, λ h. ap least h) }
