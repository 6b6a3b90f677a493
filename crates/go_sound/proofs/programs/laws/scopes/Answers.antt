use Rattle.go_sound.proofs.Package.{packages_are_ready}
use Rattle.go_sound.proofs.programs.laws.scopes.Goals as goal

pub returns : goal.returns
returns c = record { ready = packages_are_ready }
