use Rattle.std.proofs.Common.{◌≡◌, drop, map, List}
use Rattle.go_type.specs.Tree.{Ty}
use Rattle.go_core.specs.Communicate.{has_partner}
use Rattle.go_state.specs.StateSeen.{goroutine_of}
use Rattle.go_partners.specs.Sought.{test_of}
use Rattle.go_partners.proofs.partners.partners.has_partner.Given as goal

abbrev pub invariant-goroutines : goal.invariant-goroutines
invariant-goroutines l =
    (ts : List Ty) → has_partner (test_of l.side l.name) l.g l.i (drop l.i (map (goroutine_of ts) l.goroutines)) ≡ has_partner (test_of l.side l.name) l.g 0 (map (goroutine_of ts) l.goroutines)
