-- A partner goes on beside the goroutine that moves.
use Rattle.std.proofs.Common.{◌≡◌, ap, ◌∙◌, ℕ, List, [], ◌∷◌}
use Rattle.std.specs.Prelude.{◌+◌, Bool, true, false, if◌then◌else◌, Option, Some, None, option_map, Result, Ok, Err}
use Rattle.go_type.specs.Tree.{Ty}
use Rattle.go_core.specs.CoreTree.{CoreProgram}
use Rattle.go_core.specs.Communicate.{partner_offer, to_partner, from_partner, resumed, done_with, received, same_name}
use Rattle.go_core.specs.Goroutine.{Task, Frame, State, Move, Offer, sending, receiving, moved}
use Rattle.go_core.specs.Memory.{Value}
use Rattle.go_values.specs.declared.operators.did.Stop.{Stop}
use Rattle.go_values.specs.declared.operators.did.Stop.TheVariants as stop
use Rattle.go_state.specs.StateSeen.{state_of}
use Rattle.go_state.specs.declared.state.state.State as held
use Rattle.go_partners.specs.Moves.{with_frames}
use Rattle.go_partners.specs.Wakes.{GoesOn, GoesOnBeside, Receives}
use Rattle.go_partners.proofs.FramesLemmas.{partner_offer_same, partner_other}
use Rattle.go_partners.proofs.WakeLemmas.{moved_over, resumed_apart}

module _ (p : CoreProgram) (g : ℕ) (move : Move) where
  -- ---- to the partner

  module _ (name : ℕ) (x : Value) (fs gs : List Frame) (units : ℕ) (s : State) where
    -- the step, with the partner's way as it is found
    pub to_found : (o : Option Offer) → partner_offer g move s ≡ o
        → to_partner p g move name x (partner_offer g move (with_frames g fs s)) (moved g gs units (with_frames g fs s)) ≡ to_partner p g move name x o (moved g gs units s)
    to_found o h =
        ap (λ (q : Option Offer). to_partner p g move name x q (moved g gs units (with_frames g fs s))) (partner_offer_same fs g move s ∙ h)
        ∙ ap (to_partner p g move name x o) (moved_over g fs gs units s)

    pub to_receiver : (c : Option ℕ) (z : Value) (u n : ℕ) (after : List Task) → partner_offer g move s ≡ Some (receiving c z u n after) → same_name c name ≡ true
        → to_partner p g move name x (partner_offer g move (with_frames g fs s)) (moved g gs units (with_frames g fs s)) ≡ option_map (moved g gs units) (resumed (received n x true) after move.partner s)
    to_receiver c z u n after h k =
        to_found (Some (receiving c z u n after)) h
        ∙ ap (λ (b : Bool). if b then resumed (received n x true) after move.partner (moved g gs units s) else None) k
        ∙ resumed_apart (received n x true) after g move.partner gs units s (partner_other g move s (receiving c z u n after) h)

    pub to_another : (c : Option ℕ) (z : Value) (u n : ℕ) (after : List Task) → partner_offer g move s ≡ Some (receiving c z u n after) → same_name c name ≡ false
        → to_partner p g move name x (partner_offer g move (with_frames g fs s)) (moved g gs units (with_frames g fs s)) ≡ None
    to_another c z u n after h k =
        to_found (Some (receiving c z u n after)) h ∙ ap (λ (b : Bool). if b then resumed (received n x true) after move.partner (moved g gs units s) else None) k

  -- by what the partner comes to
  pub to_goes : (ts : List Ty) (name : ℕ) (x : Value) (r : Result Unit Stop) (s s' : held.State) (c : Option ℕ) (z : Value) (u n : ℕ) (after : List Task)
      → partner_offer g move (state_of ts s) ≡ Some (receiving c z u n after) → same_name c name ≡ true
      → GoesOn ts r s' (resumed (received n x true) after move.partner (state_of ts s))
      → GoesOnBeside ts g r s s' (λ a b. to_partner p g move name x (partner_offer g move a) b)
  to_goes ts name x (Ok y) s s' c z u n after h k e = λ fs gs units. to_receiver name x fs gs units (state_of ts s) c z u n after h k ∙ ap (option_map (moved g gs units)) e
  to_goes ts name x (Err stop.NoMemory) s s' c z u n after h k e = tt
  to_goes ts name x (Err stop.NoStep) s s' c z u n after h k e = λ fs gs units. to_receiver name x fs gs units (state_of ts s) c z u n after h k ∙ ap (option_map (moved g gs units)) e
  to_goes ts name x (Err (stop.Panics q m)) s s' c z u n after h k e = e

  -- ---- from the partner

  module _ (name : ℕ) (fs : List Frame) (n : ℕ) (after : List Task) (f : Frame) (below : List Frame) (u : ℕ) (s : State) where
    pub from_found : (o : Option Offer) → partner_offer g move s ≡ o
        → from_partner p g move name n after (partner_offer g move (with_frames g fs s)) f below u (with_frames g fs s) ≡ from_partner p g move name n after o f below u (with_frames g fs s)
    from_found o h = ap (λ (q : Option Offer). from_partner p g move name n after q f below u (with_frames g fs s)) (partner_offer_same fs g move s ∙ h)

    pub from_sender : (c : Option ℕ) (x : Value) (k : ℕ) (then_ : List Task) → partner_offer g move s ≡ Some (sending c x k then_) → same_name c name ≡ true
        → from_partner p g move name n after (partner_offer g move (with_frames g fs s)) f below u (with_frames g fs s)
        ≡ option_map (moved g (done_with (received n x true) after f ∷ below) (1 + u)) (resumed [] then_ move.partner s)
    from_sender c x k then_ h e =
        let gs = done_with (received n x true) after f ∷ below in
        from_found (Some (sending c x k then_)) h
        ∙ ap (λ (b : Bool). if b then resumed [] then_ move.partner (moved g gs (1 + u) (with_frames g fs s)) else None) e
        ∙ ap (resumed [] then_ move.partner) (moved_over g fs gs (1 + u) s)
        ∙ resumed_apart [] then_ g move.partner gs (1 + u) s (partner_other g move s (sending c x k then_) h)

    pub from_another : (c : Option ℕ) (x : Value) (k : ℕ) (then_ : List Task) → partner_offer g move s ≡ Some (sending c x k then_) → same_name c name ≡ false
        → from_partner p g move name n after (partner_offer g move (with_frames g fs s)) f below u (with_frames g fs s) ≡ None
    from_another c x k then_ h e =
        let gs = done_with (received n x true) after f ∷ below in
        from_found (Some (sending c x k then_)) h
        ∙ ap (λ (b : Bool). if b then resumed [] then_ move.partner (moved g gs (1 + u) (with_frames g fs s)) else None) e

  pub from_stops : (ts : List Ty) (name : ℕ) (e : Stop) (s s' : held.State) (c : Option ℕ) (x : Value) (k : ℕ) (then_ : List Task)
      → partner_offer g move (state_of ts s) ≡ Some (sending c x k then_) → same_name c name ≡ true
      → GoesOn ts (Err e) s' (resumed [] then_ move.partner (state_of ts s))
      → Receives ts g (Err e) s s' (λ n after f below u a. from_partner p g move name n after (partner_offer g move a) f below u a)
  from_stops ts name stop.NoMemory s s' c x k then_ h e r = tt
  from_stops ts name stop.NoStep s s' c x k then_ h e r =
      λ fs n after f below u. from_sender name fs n after f below u (state_of ts s) c x k then_ h e ∙ ap (option_map (moved g (done_with (received n x true) after f ∷ below) (1 + u))) r
  from_stops ts name (stop.Panics q m) s s' c x k then_ h e r = r
