use Rattle.std.proofs.Common.{◌≡◌, ◌++◌, drop, map, List}
use Rattle.go_type.specs.Tree.{Ty}
use Rattle.go_core.specs.Communicate.{ready_ways}
use Rattle.go_state.specs.StateSeen.{offer_of, state_of}
use Rattle.go_partners.proofs.partners.ready.ready_ways.Given as goal

abbrev pub invariant-offers : goal.invariant-offers
invariant-offers l =
    (ts : List Ty) → l.ways.items ++ ready_ways l.g (state_of ts l.state) l.i (drop l.i (map (offer_of ts) l.offers)) ≡ ready_ways l.g (state_of ts l.state) 0 (map (offer_of ts) l.offers)
