use Rattle.std.proofs.Common.{◌∙◌, ap}
use Rattle.std.specs.List.{list_any}
use Rattle.go_walk.specs.SetsHas.{same_place}
use Rattle.go_walk.proofs.SetsHasLemmas.{place_inserted}
use Rattle.go_walk.proofs.sets.spots.PlaceSet.insert.Goals as goal

pub returns-clause-value : goal.returns-clause-value
returns-clause-value c = λ q. ap (list_any (same_place q)) c.in_ok-insert.ensures.keys ∙ place_inserted c.args.self.now.places.keys c.args.p q
