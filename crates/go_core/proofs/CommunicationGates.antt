-- Gates, the end of a channel, and goroutines that wait.
use Rattle.std.proofs.Common.{refl, sym, subst}
use Rattle.std.specs.Prelude.{◌≡◌, ℕ, zero, suc, ◌+◌, ℤ, pos, negsuc, ◌+ℤ◌, List, [], ◌∷◌, true, if◌then◌else◌, Option, Some, None, slice_get, option_and_then}
use Rattle.gj_base.specs.declared.kind.Kind.TheVariants.{I32}
use Rattle.go_type.specs.declared.types.IntName.TheVariants as integer
use Rattle.go_type.specs.Tree.{Ty}
use Rattle.go_core.specs.Arithmetic.{wrapped}
use Rattle.go_core.specs.Memory as cell
use Rattle.go_core.specs.Memory.{Scalar, Value, Memory, Channel, set_channel, with_written, read_cells}
use Rattle.go_core.specs.CoreTree.{CoreProgram}
use Rattle.go_core.specs.TypeOf.{int_type}
use Rattle.go_core.specs.SoundNode.{types_of_vars}
use Rattle.go_core.specs.SoundProgram.{Sound}
use Rattle.go_core.specs.RunPanic.{closed_twice, closed_nil}
use Rattle.go_core.specs.Goroutine.{Frame, Offer, Waiting, able, at_channels, at_take, at_await, State, Move, moved, with_memory}
use Rattle.go_core.specs.Frames.{panic_step, with_more}
use Rattle.go_core.specs.Communicate as talk
use Rattle.go_core.specs.Communicate.{offer_ready, is_zero, waiting_ready}
use Rattle.go_core.specs.Leaves.{leaf, Spans}
use Rattle.go_core.specs.Typed.{World, whole_typed, MemoryTyped}
use Rattle.go_core.specs.Applies.{Slot, a_value}
use Rattle.go_core.specs.WellFormed.{gives_below, GlobalsLie, FrameTyped, Remains, FramesTyped, ChannelFits, WaitsTyped, GoroutineTyped, GoroutinesTyped, WellFormed}
use Rattle.go_core.specs.LocalSteps.{KeepsWell}
use Rattle.go_core.specs.CommunicationSteps.{IsThere, KeepsIfThere, Goes, GoesWell}
use Rattle.go_core.proofs.MemoryLemmas.{reads, writes}
use Rattle.go_core.proofs.TypedScalars.{one_scalar, whole_in}
use Rattle.go_core.proofs.FramesGrow.{goroutine_set}
use Rattle.go_core.proofs.CommunicationFrames.{if_state, move_by, goes_at, one_step, channel_found, sets_channel, offer_at, well}
use Rattle.go_core.proofs.CommunicationOffers.{panicked, offer_keeps, offer_goes}
use Rattle.go_core.proofs.CommunicationReach.{ReadyAt, ready_way, waits_well}

module _ (p : CoreProgram) (sound : Sound p) (w : World) (gl : GlobalsLie p w) (g : ℕ) (s : State) (mt : MemoryTyped p w s.memory) (gt : GoroutinesTyped p w s.goroutines)
    (slots : List Slot) (fr : Frame) (below : List Frame) (ft : FrameTyped p w slots fr below) (bt : FramesTyped p w (gives_below fr.purpose (types_of_vars fr.results)) below) where
  -- the goroutine goes on, with this memory
  goes_on : (m : Memory) → MemoryTyped p w m → (frames : List Frame) → GoroutineTyped p w able frames → (units : ℕ) → WellFormed p (with_memory m (moved g frames units s))
  goes_on m mt' frames h units =
      well p sound w gl (with_memory m (moved g frames units s)) mt' (goroutine_set p w s.goroutines g (record { frames = frames; waiting = able }) gt h)

  as_it_is : Remains p w fr slots fr.tasks → (units : ℕ) → WellFormed p (moved g (fr ∷ below) units s)
  as_it_is h units = goes_on s.memory mt (fr ∷ below) ((slots, ft, h), bt) units

  -- ---- "Close"

  pub close_well : (name : Option ℕ) (t : Ty) → ChannelFits p w name t → Remains p w fr slots fr.tasks → GoesWell p g (λ move. talk.close_named p g move name fr below s)
  close_well None t e h = one_step p g (λ move. talk.close_named p g move None fr below s) (λ move. panicked p sound w gl g s mt gt slots fr below ft bt closed_nil)
  close_well (Some name) t e h =
      let c = channel_found p w w.channels s.memory.channels name t mt.channels_typed e in
      subst (λ q. GoesWell p g (λ move. option_and_then (λ state. talk.closed_at p g move name state fr below s) q)) (sym c.is_at)
      (one_step p g (λ move. talk.closed_at p g move name c.at fr below s)
      (λ move. if_state (KeepsWell p) c.at.closed (panic_step p.hidden g closed_twice 0 fr below s)
      (Some (with_memory (set_channel s.memory name (record c.at { closed = true })) (moved g (fr ∷ below) (1 + talk.waiting_at p g move name s.goroutines) s)))
      (λ f. panicked p sound w gl g s mt gt slots fr below ft bt closed_twice)
      (λ f. goes_on (set_channel s.memory name (record c.at { closed = true })) (sets_channel p w s.memory name t (record c.at { closed = true }) mt e c.typed) (fr ∷ below) ((slots, ft, h), bt)
      (1 + talk.waiting_at p g move name s.goroutines))))

  -- ---- gates

  record Number (x : Value) : Type 0 where
    number : ℤ
    is_number : x ≡ cell.whole number ∷ []

  number_at : (base : ℕ) → Spans w.cells base (leaf int_type ∷ []) → Number (read_cells base 1 s.memory.cells)
  number_at base h =
      one_scalar p w (leaf int_type) (read_cells base 1 s.memory.cells) Number (reads p w s.memory base 1 (leaf int_type ∷ []) mt h refl)
      (λ y a. whole_in p w integer.Int y (λ z. Number (z ∷ [])) a (λ n. record { number = n; is_number = refl }))

  set_memory : (base : ℕ) → Spans w.cells base (leaf int_type ∷ []) → (n : ℤ) → MemoryTyped p w (with_written s.memory base (cell.whole n ∷ []))
  set_memory base h n = writes p w s.memory base (leaf int_type ∷ []) (cell.whole n ∷ []) mt h (whole_typed integer.Int n, tt)

  -- a gate is set, and the goroutine goes on
  sets : (base : ℕ) → Spans w.cells base (leaf int_type ∷ []) → Remains p w fr slots fr.tasks → (n : ℤ) (units : ℕ) → WellFormed p (with_memory (with_written s.memory base (cell.whole n ∷ [])) (moved g (fr ∷ below) units s))
  sets base h r n units = goes_on (with_written s.memory base (cell.whole n ∷ [])) (set_memory base h n) (fr ∷ below) ((slots, ft, r), bt) units

  module _ (base : ℕ) (lies : Spans w.cells base (leaf int_type ∷ [])) (r : Remains p w fr slots fr.tasks) where
    by_take : (n : ℤ) (move : Move) → KeepsWell p (talk.gate_taken p g move (Some n) base fr below s)
    by_take (pos zero) move = sets base lies r (pos 1) 1
    by_take (pos (suc n)) move = waits_well p sound w gl [] g slots fr below ft bt s mt gt (at_take base) 0 (lies, r) move
    by_take (negsuc n) move = waits_well p sound w gl [] g slots fr below ft bt s mt gt (at_take base) 0 (lies, r) move

    by_await : (n : ℤ) (move : Move) → KeepsWell p (talk.gate_awaited p g move (Some n) base fr below s)
    by_await (pos zero) move = as_it_is r 1
    by_await (pos (suc n)) move = waits_well p sound w gl [] g slots fr below ft bt s mt gt (at_await base) 0 (lies, r) move
    by_await (negsuc n) move = waits_well p sound w gl [] g slots fr below ft bt s mt gt (at_await base) 0 (lies, r) move

    pub take_well : GoesWell p g (λ move. talk.gate_taken p g move (talk.gate_number p g move base s) base fr below s)
    take_well =
        let n = number_at base lies in
        subst (λ x. GoesWell p g (λ move. talk.gate_taken p g move (talk.number_in p g move x) base fr below s)) (sym n.is_number)
        (one_step p g (λ move. talk.gate_taken p g move (Some n.number) base fr below s) (by_take n.number))

    pub await_well : GoesWell p g (λ move. talk.gate_awaited p g move (talk.gate_number p g move base s) base fr below s)
    await_well =
        let n = number_at base lies in
        subst (λ x. GoesWell p g (λ move. talk.gate_awaited p g move (talk.number_in p g move x) base fr below s)) (sym n.is_number)
        (one_step p g (λ move. talk.gate_awaited p g move (Some n.number) base fr below s) (by_await n.number))

    -- a waiting goroutine goes on where the gate is 0
    again_take : (n : ℤ) (move : Move) → KeepsIfThere p (talk.gate_again p g move (Some n) (Some (pos 1)) base fr below s)
    again_take (pos zero) move = sets base lies r (pos 1) 1
    again_take (pos (suc n)) move = tt
    again_take (negsuc n) move = tt

    again_await : (n : ℤ) (move : Move) → KeepsIfThere p (talk.gate_again p g move (Some n) None base fr below s)
    again_await (pos zero) move = as_it_is r 1
    again_await (pos (suc n)) move = tt
    again_await (negsuc n) move = tt

    goes_take : (n : ℤ) (move : Move) → is_zero (cell.whole n ∷ []) ≡ true → IsThere (talk.gate_again p g move (Some n) (Some (pos 1)) base fr below s)
    goes_take (pos zero) move e = tt
    goes_take (pos (suc n)) move e = absurd (cc)
    goes_take (negsuc n) move e = absurd (cc)

    goes_await : (n : ℤ) (move : Move) → is_zero (cell.whole n ∷ []) ≡ true → IsThere (talk.gate_again p g move (Some n) None base fr below s)
    goes_await (pos zero) move e = tt
    goes_await (pos (suc n)) move e = absurd (cc)
    goes_await (negsuc n) move e = absurd (cc)

    again_keeps : (next : Option ℤ) → ((n : ℤ) (move : Move) → KeepsIfThere p (talk.gate_again p g move (Some n) next base fr below s)) → (move : Move) → KeepsIfThere p (talk.gate_again p g move (talk.gate_number p g move base s) next base fr below s)
    again_keeps next h move =
        let n = number_at base lies in
        subst (λ x. KeepsIfThere p (talk.gate_again p g move (talk.number_in p g move x) next base fr below s)) (sym n.is_number) (h n.number move)

    again_goes : (next : Option ℤ) → ((n : ℤ) (move : Move) → is_zero (cell.whole n ∷ []) ≡ true → IsThere (talk.gate_again p g move (Some n) next base fr below s))
        → (move : Move) → is_zero (read_cells base 1 s.memory.cells) ≡ true → IsThere (talk.gate_again p g move (talk.gate_number p g move base s) next base fr below s)
    again_goes next h move e =
        let n = number_at base lies in
        subst (λ x. IsThere (talk.gate_again p g move (talk.number_in p g move x) next base fr below s)) (sym n.is_number) (h n.number move (subst (λ x. is_zero x ≡ true) n.is_number e))

  pub add_well : (base : ℕ) → Spans w.cells base (leaf int_type ∷ []) → Remains p w fr (a_value int_type ∷ slots) fr.tasks → (k : ℤ) → GoesWell p g (λ move. talk.gate_added p g move (talk.gate_number p g move base s) k base fr below s)
  add_well base lies r k =
      let n = number_at base lies in
      let sum = wrapped I32 (n.number +ℤ k) in
      subst (λ x. GoesWell p g (λ move. talk.gate_added p g move (talk.number_in p g move x) k base fr below s)) (sym n.is_number)
      (one_step p g (λ move. talk.gate_added p g move (Some n.number) k base fr below s)
      (λ move. goes_on (with_written s.memory base (cell.whole sum ∷ [])) (set_memory base lies sum) (with_more ((cell.whole sum ∷ []) ∷ []) fr ∷ below) (
        (
          a_value int_type ∷ slots,
          record {
            values_typed = ((whole_typed integer.Int sum, tt), ft.values_typed);
            places_typed = ft.places_typed;
            results_had = ft.results_had;
            deferred_typed = ft.deferred_typed;
            mode_typed = ft.mode_typed;
            purpose_fits = ft.purpose_fits;
          },
          r,
        ),
        bt,
      )
      (1 + talk.woken p g move sum base s)))

  -- ---- a goroutine that waits

  by_way : (move : Move) (os : List Offer) → WaitsTyped p w (at_channels os) fr slots → (q : Option Offer) → slice_get os move.way ≡ q → KeepsIfThere p (talk.way_if_ready p g move q os fr below s)
  by_way move os h None e = tt
  by_way move os h (Some o) e =
      if_state (KeepsIfThere p) (offer_ready g s o) (talk.offer_taken p g move (Some o) fr below s) None
      (λ f. offer_keeps p sound w gl g s mt gt slots fr below ft bt move o (offer_at p w fr slots os move.way o h e)) (λ f. tt)

  pub waiting_keeps : (move : Move) (q : Waiting) → WaitsTyped p w q fr slots → (q ≡ able → ⊥) → KeepsIfThere p (talk.waiting_step p g move q fr below s)
  waiting_keeps move able h n = absurd (n refl)
  waiting_keeps move (at_channels os) h n = by_way move os h (slice_get os move.way) refl
  waiting_keeps move (at_take base) h n = again_keeps base h.0 h.1 (Some (pos 1)) (again_take base h.0 h.1) move
  waiting_keeps move (at_await base) h n = again_keeps base h.0 h.1 None (again_await base h.0 h.1) move

  -- a way that is ready is named by the move
  by_ready : (os : List Offer) → WaitsTyped p w (at_channels os) fr slots → (way : ℕ) → ReadyAt g s os way → Goes g (λ move. talk.waiting_step p g move (at_channels os) fr below s)
  by_ready os h way r =
      let f = offer_goes p sound w gl g s mt gt slots fr below ft bt way r.offer (offer_at p w fr slots os way r.offer h r.is_at) r.is_ready in
      goes_at g (λ move. talk.waiting_step p g move (at_channels os) fr below s) f.0 f.1
      (subst (λ i. IsThere (talk.way_if_ready p g f.0 (slice_get os i) os fr below s)) (sym f.2)
      (subst (λ q. IsThere (talk.way_if_ready p g f.0 q os fr below s)) (sym r.is_at)
      (subst (λ b. IsThere (if b then talk.offer_taken p g f.0 (Some r.offer) fr below s else None)) (sym r.is_ready) f.3)))

  pub waiting_goes : (q : Waiting) → WaitsTyped p w q fr slots → (q ≡ able → ⊥) → waiting_ready g s q ≡ true → Goes g (λ move. talk.waiting_step p g move q fr below s)
  waiting_goes able h n e = absurd (n refl)
  waiting_goes (at_channels os) h n e = let f = ready_way g s os e in by_ready os h f.0 f.1
  waiting_goes (at_take base) h n e =
      goes_at g (λ move. talk.waiting_step p g move (at_take base) fr below s) (move_by g 0 0 0) refl (again_goes base h.0 h.1 (Some (pos 1)) (goes_take base h.0 h.1) (move_by g 0 0 0) e)
  waiting_goes (at_await base) h n e =
      goes_at g (λ move. talk.waiting_step p g move (at_await base) fr below s) (move_by g 0 0 0) refl (again_goes base h.0 h.1 None (goes_await base h.0 h.1) (move_by g 0 0 0) e)
