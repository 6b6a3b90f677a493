use Rattle.std.proofs.Common.{◌≡◌, length}
use Rattle.std.specs.Prelude.{nat_eq}
use Rattle.std.specs.List.{list_any}
use Rattle.go_type.proofs.walk.holds.Given as goal

abbrev pub invariant-ids : goal.invariant-ids
invariant-ids l = list_any (nat_eq l.id) l.rest ≡ list_any (nat_eq l.id) l.ids

abbrev pub decreases-ids : goal.decreases-ids
decreases-ids l = length l.rest
