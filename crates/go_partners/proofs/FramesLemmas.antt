-- Who waits doesn't depend on the frames of the goroutine that moves.
use Rattle.std.proofs.Common.{◌≡◌, refl, sym, ap, ◌∙◌, ℕ, zero, suc, List, [], ◌∷◌}
use Rattle.std.specs.Prelude.{Bool, true, false, ◌&&◌, ◌||◌, not, if◌then◌else◌, ◌==◌, ◌≢◌, Option, Some, None, slice_get, slice_set}
use Rattle.std.proofs.lemmas.Bool.{eq-eqb}
use Rattle.go_core.specs.CoreTree.{CoreProgram}
use Rattle.go_core.specs.Communicate.{any_offer, offers_of, has_partner, partner_for, partner_offer, offer_of, offer_ready, ready_ways, is_at, waiting_at, is_at_gate, waiting_at_gate, sends_to, receives_from, send_ready, receive_ready, channel_at}
use Rattle.go_core.specs.Goroutine.{Offer, sending, receiving, Frame, Goroutine, State, Move}
use Rattle.go_partners.specs.Moves.{waiting_in, with_frames}
use Rattle.go_partners.proofs.PlacesLemmas.{get_other}

-- with other frames at one place
abbrev pub reframed : ℕ → List Frame → List Goroutine → List Goroutine
reframed i fs xs = slice_set xs i (record { frames = fs; waiting = waiting_in (slice_get xs i) })

module _ (fs : List Frame) where
  partner_of_list : (test : Offer → Bool) (g k i : ℕ) (xs : List Goroutine) → has_partner test g k (reframed i fs xs) ≡ has_partner test g k xs
  partner_of_list test g k i [] = refl
  partner_of_list test g k zero (x ∷ xs) = refl
  partner_of_list test g k (suc i) (x ∷ xs) = ap (λ (b : Bool). (not (g == k) && any_offer test (offers_of x.waiting)) || b) (partner_of_list test g (suc k) i xs)

  pub waiting_at_same : (p : CoreProgram) (g : ℕ) (free : Move) (name i : ℕ) (xs : List Goroutine) → waiting_at p g free name (reframed i fs xs) ≡ waiting_at p g free name xs
  waiting_at_same p g free name i [] = refl
  waiting_at_same p g free name zero (x ∷ xs) = refl
  waiting_at_same p g free name (suc i) (x ∷ xs) =
      ap (λ (n : ℕ). if any_offer (is_at p g free name) (offers_of x.waiting) then suc n else n) (waiting_at_same p g free name i xs)

  pub waiting_at_gate_same : (p : CoreProgram) (g : ℕ) (free : Move) (base i : ℕ) (xs : List Goroutine) → waiting_at_gate p g free base (reframed i fs xs) ≡ waiting_at_gate p g free base xs
  waiting_at_gate_same p g free base i [] = refl
  waiting_at_gate_same p g free base zero (x ∷ xs) = refl
  waiting_at_gate_same p g free base (suc i) (x ∷ xs) =
      ap (λ (n : ℕ). if is_at_gate p g free base x.waiting then suc n else n) (waiting_at_gate_same p g free base i xs)

  partner_for_same : (test : ℕ → Offer → Bool) (channel : Option ℕ) (g : ℕ) (s : State) → partner_for test channel g (with_frames g fs s) ≡ partner_for test channel g s
  partner_for_same test None g s = refl
  partner_for_same test (Some name) g s = partner_of_list (test name) g 0 g s.goroutines

  pub offer_ready_same : (g : ℕ) (s : State) (o : Offer) → offer_ready g (with_frames g fs s) o ≡ offer_ready g s o
  offer_ready_same g s (sending c x units after) = ap (send_ready (channel_at c s.memory)) (partner_for_same receives_from c g s)
  offer_ready_same g s (receiving c z units n after) = ap (receive_ready (channel_at c s.memory)) (partner_for_same sends_to c g s)

  pub ready_ways_same : (g : ℕ) (s : State) (k : ℕ) (os : List Offer) → ready_ways g (with_frames g fs s) k os ≡ ready_ways g s k os
  ready_ways_same g s k [] = refl
  ready_ways_same g s k (o ∷ os) =
      ap (λ (b : Bool). if b then k ∷ ready_ways g (with_frames g fs s) (suc k) os else ready_ways g (with_frames g fs s) (suc k) os) (offer_ready_same g s o)
      ∙ ap (λ (ws : List ℕ). if offer_ready g s o then k ∷ ws else ws) (ready_ways_same g s (suc k) os)

-- ---- the partner

pub not_equal : (i j : ℕ) → (i == j) ≡ false → i ≢ j
not_equal i j h e = let r : (i == i) ≡ true = eq-eqb i i refl in let k : (i == i) ≡ false = ap (λ (n : ℕ). i == n) e ∙ h in cc

pub partner_offer_same : (fs : List Frame) (g : ℕ) (free : Move) (s : State) → partner_offer g free (with_frames g fs s) ≡ partner_offer g free s
partner_offer_same fs g free s = by_equal (g == free.partner) refl
  where
    by_equal : (b : Bool) → (g == free.partner) ≡ b → partner_offer g free (with_frames g fs s) ≡ partner_offer g free s
    by_equal true e =
        ap (λ (c : Bool). if c then None else offer_of free.partner_way (slice_get (with_frames g fs s).goroutines free.partner)) e
        ∙ sym (ap (λ (c : Bool). if c then None else offer_of free.partner_way (slice_get s.goroutines free.partner)) e)
    by_equal false e =
        ap (λ (o : Option Goroutine). if g == free.partner then None else offer_of free.partner_way o)
        (get_other s.goroutines g free.partner (record { frames = fs; waiting = waiting_in (slice_get s.goroutines g) }) (not_equal g free.partner e))

-- a partner is another goroutine
pub partner_other : (g : ℕ) (free : Move) (s : State) (o : Offer) → partner_offer g free s ≡ Some o → g ≢ free.partner
partner_other g free s o h e =
    let t : (g == free.partner) ≡ true = ap (λ (n : ℕ). g == n) (sym e) ∙ eq-eqb g g refl in
    let n : partner_offer g free s ≡ None = ap (λ (c : Bool). if c then None else offer_of free.partner_way (slice_get s.goroutines free.partner)) t in
    cc
