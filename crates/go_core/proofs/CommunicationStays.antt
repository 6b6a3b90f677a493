-- A goroutine that waits for what is not ready has no step.
use Rattle.std.proofs.Common.{refl, ap, ◌∙◌, subst}
use Rattle.std.specs.Prelude.{◌≡◌, ℕ, zero, suc, ℤ, pos, negsuc, List, [], ◌∷◌, Bool, true, false, ◌||◌, if◌then◌else◌, Option, Some, None, slice_get}
use Rattle.go_core.specs.Memory as cell
use Rattle.go_core.specs.Memory.{Value, read_cells}
use Rattle.go_core.specs.CoreTree.{CoreProgram}
use Rattle.go_core.specs.Goroutine.{Frame, Offer, Waiting, able, at_channels, at_take, at_await, State, Move}
use Rattle.go_core.specs.Communicate as talk
use Rattle.go_core.specs.Communicate.{offer_ready, any_ready, is_zero, waiting_ready}
use Rattle.go_core.specs.GoStep as go
use Rattle.go_core.specs.CommunicationSteps.{UnreadyStays}

neither : (a b : Bool) → (a || b) ≡ false → (a ≡ false) × (b ≡ false)
neither true b e = absurd (cc)
neither false b e = (refl, e)

same_offer : (a b : Offer) → Some a ≡ Some b → a ≡ b
same_offer a b e = cc

unready_offer : (g : ℕ) (s : State) (os : List Offer) (way : ℕ) (o : Offer) → any_ready g s os ≡ false → slice_get os way ≡ Some o → offer_ready g s o ≡ false
unready_offer g s [] way o h e = absurd (cc)
unready_offer g s (q ∷ os) zero o h e = subst (λ y. offer_ready g s y ≡ false) (same_offer q o e) (neither (offer_ready g s q) (any_ready g s os) h).0
unready_offer g s (q ∷ os) (suc way) o h e = unready_offer g s os way o (neither (offer_ready g s q) (any_ready g s os) h).1 e

module _ (p : CoreProgram) (g : ℕ) (move : Move) (f : Frame) (below : List Frame) (s : State) where
  by_way : (os : List Offer) → any_ready g s os ≡ false → (q : Option Offer) → slice_get os move.way ≡ q → talk.way_if_ready p g move q os f below s ≡ None
  by_way os h None e = refl
  by_way os h (Some o) e = ap (λ b. if b then talk.offer_taken p g move (Some o) f below s else None) (unready_offer g s os move.way o h e)

  at_gate : (next : Option ℤ) (base : ℕ) (x : Value) → is_zero x ≡ false → talk.gate_again p g move (talk.number_in p g move x) next base f below s ≡ None
  at_gate next base (cell.whole (pos zero) ∷ []) e = absurd (cc)
  at_gate next base (cell.whole (pos (suc n)) ∷ []) e = refl
  at_gate next base (cell.whole (negsuc n) ∷ []) e = refl
  at_gate next base _ e = refl

  stays : (choices : List ℕ) (w : Waiting) → waiting_ready g s w ≡ false → go.by_waiting p choices move g w f below s ≡ None
  stays choices able e = absurd (cc)
  stays choices (at_channels os) e = by_way os e (slice_get os move.way) refl
  stays choices (at_take base) e = at_gate (Some (pos 1)) base (read_cells base 1 s.memory.cells) e
  stays choices (at_await base) e = at_gate None base (read_cells base 1 s.memory.cells) e

pub unready : UnreadyStays
unready p choices move g f below w s at e = ap (λ o. go.goroutine_step p choices move g o s) at ∙ stays p g move f below s choices w e
