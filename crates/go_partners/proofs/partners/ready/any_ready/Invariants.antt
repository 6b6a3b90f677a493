use Rattle.std.proofs.Common.{◌≡◌, drop, map, List}
use Rattle.go_type.specs.Tree.{Ty}
use Rattle.go_core.specs.Communicate.{any_ready}
use Rattle.go_state.specs.StateSeen.{offer_of, state_of}
use Rattle.go_partners.proofs.partners.ready.any_ready.Given as goal

abbrev pub invariant-offers : goal.invariant-offers
invariant-offers l =
    (ts : List Ty) → any_ready l.g (state_of ts l.state) (drop l.i (map (offer_of ts) l.offers)) ≡ any_ready l.g (state_of ts l.state) (map (offer_of ts) l.offers)
