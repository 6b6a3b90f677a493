use Rattle.go_typing.proofs.ScopeLemmas.{pops, decides, declares, keeps_first, keeps_others}
use Rattle.go_typing.proofs.typing.laws.scopes.Goals as goal

pub returns : goal.returns
returns _ = record { pops = pops; decides = decides; declares = declares; first = keeps_first; others = keeps_others }
