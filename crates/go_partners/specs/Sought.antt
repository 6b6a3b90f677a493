-- Which operations a side stands for.
use Rattle.std.specs.Prelude.{ℕ, Bool, ◌||◌}
use Rattle.go_core.specs.Goroutine.{Offer}
use Rattle.go_core.specs.Communicate.{sends_to, receives_from}
use Rattle.go_partners.specs.declared.partners.partners.Side.{Side}
use Rattle.go_partners.specs.declared.partners.partners.Side.TheVariants as side

-- an operation of this side on the channel
abbrev pub test_of : Side → ℕ → Offer → Bool
test_of side.Sends name o = sends_to name o
test_of side.Receives name o = receives_from name o
test_of side.Either name o = sends_to name o || receives_from name o
