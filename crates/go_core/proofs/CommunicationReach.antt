-- An operation on channels is reached: a way that is ready is taken, or the goroutine waits.
use Rattle.std.proofs.Common.{◌⊎◌, inl, inr, refl, sym, subst}
use Rattle.std.specs.Prelude.{◌≡◌, ℕ, zero, suc, ◌+◌, ◌%◌, List, [], ◌∷◌, Bool, true, false, if◌then◌else◌, Option, Some, None, slice_get, slice_set, get_or, length}
use Rattle.go_core.specs.CoreTree.{CoreProgram}
use Rattle.go_core.specs.SoundNode.{types_of_vars}
use Rattle.go_core.specs.SoundProgram.{Sound}
use Rattle.go_core.specs.Goroutine.{Task, Frame, Offer, sending, receiving, Waiting, able, at_channels, State, Move, moved}
use Rattle.go_core.specs.Control.{with_first}
use Rattle.go_core.specs.Communicate as talk
use Rattle.go_core.specs.Communicate.{offer_ready, ready_ways, any_ready}
use Rattle.go_core.specs.Typed.{World, MemoryTyped}
use Rattle.go_core.specs.Applies.{Slot}
use Rattle.go_core.specs.WellFormed.{gives_below, GlobalsLie, FrameTyped, Remains, FramesTyped, OffersTyped, WaitsTyped, GoroutinesTyped}
use Rattle.go_core.specs.LocalSteps.{KeepsWell}
use Rattle.go_core.specs.CommunicationSteps.{GoesWell}
use Rattle.go_core.proofs.FramesGrow.{goroutine_set}
use Rattle.go_core.proofs.CommunicationFrames.{or_either, goes_at, one_step, offer_at, well}
use Rattle.go_core.proofs.CommunicationOffers.{past_first, at_first, from_none, offer_keeps, offer_goes}

-- a way that is ready
pub record ReadyAt (g : ℕ) (s : State) (os : List Offer) (way : ℕ) : Type 0 where
  pub offer : Offer
  pub is_at : slice_get os way ≡ Some offer
  pub is_ready : offer_ready g s offer ≡ true

abbrev AllReady : ℕ → State → List Offer → List ℕ → Type 0
AllReady g s os [] = Unit {0}
AllReady g s os (way ∷ ways) = ReadyAt g s os way × AllReady g s os ways

first_ready : (g : ℕ) (s : State) (all : List Offer) (k : ℕ) (o : Offer) (others : List ℕ) → slice_get all k ≡ Some o → AllReady g s all others → (b : Bool) → offer_ready g s o ≡ b → AllReady g s all (if b then k ∷ others else others)
first_ready g s all k o others at h true e = (record { offer = o; is_at = at; is_ready = e }, h)
first_ready g s all k o others at h false e = h

all_ready : (g : ℕ) (s : State) (all : List Offer) (k : ℕ) (os : List Offer) → ((i : ℕ) (o : Offer) → slice_get os i ≡ Some o → slice_get all (k + i) ≡ Some o) → AllReady g s all (ready_ways g s k os)
all_ready g s all k [] at = tt
all_ready g s all k (o ∷ os) at = first_ready g s all k o (ready_ways g s (suc k) os) (at_first all os o k at) (all_ready g s all (suc k) os (past_first all os o k at)) (offer_ready g s o) refl

chosen_ready : (g : ℕ) (s : State) (os : List Offer) (ways : List ℕ) (i d : ℕ) → ReadyAt g s os d → AllReady g s os ways → ReadyAt g s os (get_or ways i d)
chosen_ready g s os [] i d h k = h
chosen_ready g s os (way ∷ ways) zero d h k = k.0
chosen_ready g s os (way ∷ ways) (suc i) d h k = chosen_ready g s os ways i d h k.1

first_way : (g : ℕ) (s : State) (o : Offer) (os : List Offer) → (any_ready g s os ≡ true → (way : ℕ) × ReadyAt g s os way) → (offer_ready g s o ≡ true) ⊎ (any_ready g s os ≡ true) → (way : ℕ) × ReadyAt g s (o ∷ os) way
first_way g s o os next (inl h) = (0, record { offer = o; is_at = refl; is_ready = h })
first_way g s o os next (inr h) = let f = next h in (suc f.0, record { offer = f.1.offer; is_at = f.1.is_at; is_ready = f.1.is_ready })

pub ready_way : (g : ℕ) (s : State) (os : List Offer) → any_ready g s os ≡ true → (way : ℕ) × ReadyAt g s os way
ready_way g s [] e = absurd (cc)
ready_way g s (o ∷ os) e = first_way g s o os (λ h. ready_way g s os h) (or_either (offer_ready g s o) (any_ready g s os) e)

-- what was counted is no matter
counted_ready : (g : ℕ) (s : State) (units taken : ℕ) (o : Offer) → offer_ready g s o ≡ true → offer_ready g (record s { units = units; taken = taken }) o ≡ true
counted_ready g s units taken (sending None x u after) e = e
counted_ready g s units taken (sending (Some name) x u after) e = e
counted_ready g s units taken (receiving None z u n after) e = e
counted_ready g s units taken (receiving (Some name) z u n after) e = e

counted : (g : ℕ) (s : State) (units taken : ℕ) (os : List Offer) (way : ℕ) → ReadyAt g s os way → ReadyAt g (record s { units = units; taken = taken }) os way
counted g s units taken os way h = record { offer = h.offer; is_at = h.is_at; is_ready = counted_ready g s units taken h.offer h.is_ready }

module _ (p : CoreProgram) (sound : Sound p) (w : World) (gl : GlobalsLie p w) (choices : List ℕ) (g : ℕ)
    (slots : List Slot) (fr : Frame) (below : List Frame) (ft : FrameTyped p w slots fr below) (bt : FramesTyped p w (gives_below fr.purpose (types_of_vars fr.results)) below) where
  pub waits_well : (s : State) → MemoryTyped p w s.memory → GoroutinesTyped p w s.goroutines → (q : Waiting) (u : ℕ) → WaitsTyped p w q fr slots → (move : Move) → KeepsWell p (talk.waits p g move q u fr below s)
  waits_well s mt gt q u h move =
      well p sound w gl (record s { goroutines = slice_set s.goroutines g (record { frames = fr ∷ below; waiting = q }); units = s.units + 1 + u }) mt
      (goroutine_set p w s.goroutines g (record { frames = fr ∷ below; waiting = q }) gt ((slots, ft, h), bt))

  abbrev pub DefaultFits : Option (List Task → List Task) → Type 0
  DefaultFits None = Unit {0}
  DefaultFits (Some default_) = Remains p w fr slots (default_ fr.tasks)

  default_well : (s : State) → MemoryTyped p w s.memory → GoroutinesTyped p w s.goroutines → (default_ : List Task → List Task) → Remains p w fr slots (default_ fr.tasks) → (u : ℕ) → KeepsWell p (Some (moved g (with_first default_ fr ∷ below) (1 + u) s))
  default_well s mt gt default_ h u =
      well p sound w gl (moved g (with_first default_ fr ∷ below) (1 + u) s) mt
      (goroutine_set p w s.goroutines g (record { frames = with_first default_ fr ∷ below; waiting = able }) gt
      ((slots, record { values_typed = ft.values_typed; places_typed = ft.places_typed; results_had = ft.results_had; deferred_typed = ft.deferred_typed; mode_typed = ft.mode_typed; purpose_fits = ft.purpose_fits }, h), bt))

  way_well : (s : State) → MemoryTyped p w s.memory → GoroutinesTyped p w s.goroutines → (os : List Offer) → OffersTyped p w fr slots os → (way : ℕ) → ReadyAt g s os way → GoesWell p g (λ move. talk.way_taken p g move way os fr below s)
  way_well s mt gt os ot way r =
      let h = offer_at p w fr slots os way r.offer ot r.is_at in
      let f = offer_goes p sound w gl g s mt gt slots fr below ft bt 0 r.offer h r.is_ready in
      subst (λ q. GoesWell p g (λ move. talk.offer_taken p g move q fr below s)) (sym r.is_at)
      (record { keeps = λ move. offer_keeps p sound w gl g s mt gt slots fr below ft bt move r.offer h; goes = goes_at g (λ move. talk.offer_taken p g move (Some r.offer) fr below s) f.0 f.1 f.3 })

  module _ (s : State) (mt : MemoryTyped p w s.memory) (gt : GoroutinesTyped p w s.goroutines) (u : ℕ) (os : List Offer) (ot : OffersTyped p w fr slots os) where
    one_ready : (way : ℕ) → ReadyAt g s os way → GoesWell p g (λ move. talk.way_taken p g move way os fr below (record s { units = s.units + u }))
    one_ready way r = way_well (record s { units = s.units + u }) mt gt os ot way (counted g s (s.units + u) s.taken os way r)

    some_ready : (x y : ℕ) (ways : List ℕ) → AllReady g s os (x ∷ y ∷ ways)
        → GoesWell p g (λ move. talk.way_taken p g move (get_or (x ∷ y ∷ ways) (get_or choices s.taken 0 % length (x ∷ y ∷ ways)) x) os fr below (record s { units = s.units + u; taken = suc s.taken }))
    some_ready x y ways r =
        let way = get_or (x ∷ y ∷ ways) (get_or choices s.taken 0 % length (x ∷ y ∷ ways)) x in
        way_well (record s { units = s.units + u; taken = suc s.taken }) mt gt os ot way
        (counted g s (s.units + u) (suc s.taken) os way (chosen_ready g s os (x ∷ y ∷ ways) (get_or choices s.taken 0 % length (x ∷ y ∷ ways)) x r.0 r))

    reached_well : (default_ : Option (List Task → List Task)) → DefaultFits default_ → (ways : List ℕ) → AllReady g s os ways → GoesWell p g (λ move. talk.reached p g move choices default_ u os ways fr below s)
    reached_well None d [] r = one_step p g (λ move. talk.reached p g move choices None u os [] fr below s) (λ move. waits_well s mt gt (at_channels os) u ot move)
    reached_well (Some default_) d [] r = one_step p g (λ move. talk.reached p g move choices (Some default_) u os [] fr below s) (λ move. default_well s mt gt default_ d u)
    reached_well None d (x ∷ []) r = one_ready x r.0
    reached_well (Some default_) d (x ∷ []) r = one_ready x r.0
    reached_well None d (x ∷ y ∷ ways) r = some_ready x y ways r
    reached_well (Some default_) d (x ∷ y ∷ ways) r = some_ready x y ways r

    pub reach_well : (default_ : Option (List Task → List Task)) → DefaultFits default_ → GoesWell p g (λ move. talk.reach p g move choices default_ u os fr below s)
    reach_well default_ d = reached_well default_ d (ready_ways g s 0 os) (all_ready g s os 0 os (from_none os))
