-- What a goroutine waits for, by a way. These words are for private clauses, but for `waiting_at`.
use Rattle.std.specs.Prelude.{◌≡◌, ℕ, List, Some, None, slice_get}
use Rattle.go_type.specs.Tree.{Ty}
use Rattle.go_core.specs.Goroutine as defined
use Rattle.go_state.specs.StateSeen.{offer_of}
use Rattle.go_partners.specs.declared.waits.waiting.Wanted.{Wanted}
use Rattle.go_partners.specs.declared.waits.waiting.Wanted.TheVariants as wanted

abbrev pub NoWay : ℕ → defined.Waiting → Type 0
NoWay way (defined.at_channels os) = slice_get os way ≡ None
NoWay way defined.able = Unit {0}
NoWay way w = ⊥

-- an operation, a gate, or nothing
abbrev pub IsWanted : List Ty → Wanted → ℕ → defined.Waiting → Type 0
IsWanted ts (wanted.Way o) way w = (os : List defined.Offer) × (w ≡ defined.at_channels os) × (slice_get os way ≡ Some (offer_of ts o))
IsWanted ts (wanted.Take base) way w = w ≡ defined.at_take base
IsWanted ts (wanted.Await base) way w = w ≡ defined.at_await base
IsWanted ts wanted.Nothing way w = NoWay way w
