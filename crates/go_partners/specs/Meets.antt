-- What a value finds that is sent to a channel. These words are for private clauses.
use Rattle.std.specs.Prelude.{◌≡◌, ◌==◌, true, false, length, nat_lt}
use Rattle.go_core.specs.Memory.{Channel}
use Rattle.go_partners.specs.declared.exchanges.take.Meets.{Meets}
use Rattle.go_partners.specs.declared.exchanges.take.Meets.TheVariants as meets

abbrev pub SendMeets : Meets → Channel → Type 0
SendMeets meets.Closed c = c.closed ≡ true
SendMeets meets.Room c = (c.closed ≡ false) × (nat_lt (length c.values) c.capacity ≡ true)
SendMeets meets.Partner c = (c.closed ≡ false) × (nat_lt (length c.values) c.capacity ≡ false) × ((c.capacity == 0) ≡ true)
SendMeets meets.Nothing c = (c.closed ≡ false) × (nat_lt (length c.values) c.capacity ≡ false) × ((c.capacity == 0) ≡ false)
