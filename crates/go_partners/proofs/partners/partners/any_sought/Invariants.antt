use Rattle.std.proofs.Common.{◌≡◌, drop, map, List}
use Rattle.go_type.specs.Tree.{Ty}
use Rattle.go_core.specs.Communicate.{any_offer}
use Rattle.go_state.specs.StateSeen.{offer_of}
use Rattle.go_partners.specs.Sought.{test_of}
use Rattle.go_partners.proofs.partners.partners.any_sought.Given as goal

abbrev pub invariant-offers : goal.invariant-offers
invariant-offers l =
    (ts : List Ty) → any_offer (test_of l.side l.name) (drop l.i (map (offer_of ts) l.offers)) ≡ any_offer (test_of l.side l.name) (map (offer_of ts) l.offers)
