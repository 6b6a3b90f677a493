-- A goroutine that waits, by what it waits for.
use Rattle.std.proofs.Common.{◌≡◌, ◌<◌, refl, ap, ◌∙◌, ℕ, List, map, length, get_or}
use Rattle.std.specs.Prelude.{Option, Some, None, slice_get}
use Rattle.go_type.specs.Tree.{Ty}
use Rattle.go_core.specs.CoreTree.{CoreProgram}
use Rattle.go_core.specs.Communicate.{waiting_step, way_if_ready}
use Rattle.go_core.specs.Goroutine.{Frame, State, Move, Offer, Waiting, able, at_channels, at_take, at_await}
use Rattle.go_partners.specs.Moves.{waiting_in}
use Rattle.go_state.specs.StateSeen.{goroutine_of, waiting_of}
use Rattle.go_state.specs.declared.state.state.Goroutine as held
use Rattle.go_state.proofs.ListsLemmas.{get_here}
use Rattle.go_partners.specs.Wanted.{NoWay}

-- what the goroutine of a place waits for
pub waiting_there : (ts : List Ty) (xs : List held.Goroutine) (g : ℕ) (x : held.Goroutine) → g < length xs → x ≡ get_or xs g x → waiting_in (slice_get (map (goroutine_of ts) xs) g) ≡ waiting_of ts x.waiting
waiting_there ts xs g x l e = ap waiting_in (get_here (goroutine_of ts) xs g x l e)

module _ (p : CoreProgram) (g : ℕ) (move : Move) (f : Frame) (below : List Frame) (s : State) where
  pub way_there : (w : Waiting) (os : List Offer) (o : Offer) → w ≡ at_channels os → slice_get os move.way ≡ Some o
      → waiting_step p g move w f below s ≡ way_if_ready p g move (Some o) os f below s
  way_there w os o h e =
      ap (λ (x : Waiting). waiting_step p g move x f below s) h ∙ ap (λ (x : Option Offer). way_if_ready p g move x os f below s) e

  pub no_way : (w : Waiting) → NoWay move.way w → waiting_step p g move w f below s ≡ None
  no_way able h = refl
  no_way (at_channels os) h = ap (λ (x : Option Offer). way_if_ready p g move x os f below s) h
  no_way (at_take base) h = absurd h
  no_way (at_await base) h = absurd h
