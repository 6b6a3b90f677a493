-- A way is taken, with the partner that moves in the same step.
use Rattle.std.proofs.Common.{◌⊎◌, inl, inr, refl, sym, ap, ◌∙◌, subst, arith}
use Rattle.std.specs.Prelude.{◌≡◌, ℕ, suc, ◌+◌, ◌==◌, List, [], ◌∷◌, ◌++◌, Bool, true, false, ◌||◌, ◌&&◌, not, if◌then◌else◌, nat_lt, Option, Some, None, slice_get, length, option_and_then}
use Rattle.std.proofs.lemmas.Bool.{eqb-true, eqb-false}
use Rattle.go_type.specs.Tree.{Ty}
use Rattle.go_core.specs.Untagged.{untagged, IsAlike}
use Rattle.go_core.specs.Memory.{Value, Memory, Channel, set_channel}
use Rattle.go_core.specs.CoreTree.{CoreProgram}
use Rattle.go_core.specs.SoundNode.{types_of_vars}
use Rattle.go_core.specs.SoundProgram.{Sound}
use Rattle.go_core.specs.RunPanic.{panic_value, send_on_closed, RunPanic}
use Rattle.go_core.specs.Goroutine.{Task, Frame, Offer, sending, receiving, able, Goroutine, State, Move, moved, with_memory}
use Rattle.go_core.specs.Frames.{to_panicking, panic_step}
use Rattle.go_core.specs.Communicate as talk
use Rattle.go_core.specs.Communicate.{channel_at, same_name, sends_to, receives_from, any_offer, offers_of, has_partner, meets, is_empty, send_ready, receive_ready, partner_for, offer_ready, received, done_with, resumed, offer_of, partner_offer}
use Rattle.go_core.specs.Typed.{World, IsOf, AllOf, MemoryTyped}
use Rattle.go_core.specs.Applies.{Slot, values_of_types, pushed_slots, AreIn}
use Rattle.go_core.specs.WellFormed.{gives_below, GlobalsLie, FrameTyped, Remains, FramesTyped, received_types, OfferTyped, GoroutinesTyped, WellFormed}
use Rattle.go_core.specs.LocalSteps.{KeepsWell}
use Rattle.go_core.specs.CommunicationSteps.{IsThere, KeepsIfThere}
use Rattle.go_core.proofs.UntaggedLemmas.{is_alike}
use Rattle.go_core.proofs.FramesGrow.{goroutine_at, goroutine_set}
use Rattle.go_core.proofs.CommunicationFrames.{or_either, and_both, if_state, get_other, some_type, if_there, there, move_by, channel_found, sets_channel, all_append, received_typed, WaitsAt, waits_at, well, done_typed, panicked_typed, resumes}

-- ---- partners

record OfferFound (test : Offer → Bool) (os : List Offer) : Type 0 where
  way : ℕ
  offer : Offer
  is_at : slice_get os way ≡ Some offer
  passes : test offer ≡ true

first_offer : (test : Offer → Bool) (o : Offer) (os : List Offer) → (any_offer test os ≡ true → OfferFound test os) → (test o ≡ true) ⊎ (any_offer test os ≡ true) → OfferFound test (o ∷ os)
first_offer test o os next (inl h) = record { way = 0; offer = o; is_at = refl; passes = h }
first_offer test o os next (inr h) = let f = next h in record { way = suc f.way; offer = f.offer; is_at = f.is_at; passes = f.passes }

offer_found : (test : Offer → Bool) (os : List Offer) → any_offer test os ≡ true → OfferFound test os
offer_found test [] e = absurd (cc)
offer_found test (o ∷ os) e = first_offer test o os (λ h. offer_found test os h) (or_either (test o) (any_offer test os) e)

pub record PartnerFound (test : Offer → Bool) (g : ℕ) (gs : List Goroutine) : Type 0 where
  pub place : ℕ
  pub goroutine : Goroutine
  pub way : ℕ
  pub offer : Offer
  pub is_at : slice_get gs place ≡ Some goroutine
  pub is_other : (g == place) ≡ false
  pub waits_so : slice_get (offers_of goroutine.waiting) way ≡ Some offer
  pub passes : test offer ≡ true

not_true : (b : Bool) → not b ≡ true → b ≡ false
not_true true e = absurd (cc)
not_true false e = refl

this_partner : (test : Offer → Bool) (g k : ℕ) (gs : List Goroutine) (x : Goroutine) → slice_get gs k ≡ Some x → (not (g == k) ≡ true) × (any_offer test (offers_of x.waiting) ≡ true) → PartnerFound test g gs
this_partner test g k gs x e h =
    let f = offer_found test (offers_of x.waiting) h.1 in
    record { place = k; goroutine = x; way = f.way; offer = f.offer; is_at = e; is_other = not_true (g == k) h.0; waits_so = f.is_at; passes = f.passes }

first_partner : (test : Offer → Bool) (g k : ℕ) (gs xs : List Goroutine) (x : Goroutine) → slice_get gs k ≡ Some x → (has_partner test g (suc k) xs ≡ true → PartnerFound test g gs)
    → ((not (g == k) && any_offer test (offers_of x.waiting)) ≡ true) ⊎ (has_partner test g (suc k) xs ≡ true) → PartnerFound test g gs
first_partner test g k gs xs x at next (inl h) = this_partner test g k gs x at (and_both (not (g == k)) (any_offer test (offers_of x.waiting)) h)
first_partner test g k gs xs x at next (inr h) = next h

-- the places of a list's rest are those past its first
pub past_first : {A : Type 0} (all xs : List A) (x : A) (k : ℕ) → ((i : ℕ) (y : A) → slice_get (x ∷ xs) i ≡ Some y → slice_get all (k + i) ≡ Some y) → (i : ℕ) (y : A) → slice_get xs i ≡ Some y → slice_get all (suc k + i) ≡ Some y
past_first all xs x k at i y h = let z : k + suc i ≡ suc k + i = omega arith in subst (λ j. slice_get all j ≡ Some y) z (at (suc i) y h)

pub at_first : {A : Type 0} (all xs : List A) (x : A) (k : ℕ) → ((i : ℕ) (y : A) → slice_get (x ∷ xs) i ≡ Some y → slice_get all (k + i) ≡ Some y) → slice_get all k ≡ Some x
at_first all xs x k at = let z : k + 0 ≡ k = omega arith in subst (λ j. slice_get all j ≡ Some x) z (at 0 x refl)

pub from_none : {A : Type 0} (all : List A) (i : ℕ) (y : A) → slice_get all i ≡ Some y → slice_get all (0 + i) ≡ Some y
from_none all i y h = let z : i ≡ 0 + i = omega arith in subst (λ j. slice_get all j ≡ Some y) z h

partner_from : (test : Offer → Bool) (g k : ℕ) (gs xs : List Goroutine) → ((i : ℕ) (y : Goroutine) → slice_get xs i ≡ Some y → slice_get gs (k + i) ≡ Some y) → has_partner test g k xs ≡ true → PartnerFound test g gs
partner_from test g k gs [] at e = absurd (cc)
partner_from test g k gs (x ∷ xs) at e =
    first_partner test g k gs xs x (at_first gs xs x k at) (λ h. partner_from test g (suc k) gs xs (past_first gs xs x k at) h)
    (or_either (not (g == k) && any_offer test (offers_of x.waiting)) (has_partner test g (suc k) xs) e)

pub partner_found : (test : Offer → Bool) (g : ℕ) (gs : List Goroutine) → has_partner test g 0 gs ≡ true → PartnerFound test g gs
partner_found test g gs e = partner_from test g 0 gs gs (from_none gs) e

last_of : (a b m : Bool) → a ≡ false → b ≡ false → (a || b || m) ≡ true → m ≡ true
last_of true b m e f h = absurd (cc)
last_of false true m e f h = absurd (cc)
last_of false false m e f h = h

met : (a b c : Bool) → (a && b && c) ≡ true → (a ≡ true) × (c ≡ true)
met true true c h = (refl, h)
met true false c h = absurd (cc)
met false b c h = absurd (cc)

-- the partner that a move names
pub record Partner (g : ℕ) (move : Move) (s : State) (o : Offer) : Type 0 where
  pub goroutine : Goroutine
  pub is_at : slice_get s.goroutines move.partner ≡ Some goroutine
  pub is_other : g ≡ move.partner → ⊥
  pub waits_so : slice_get (offers_of goroutine.waiting) move.partner_way ≡ Some o

partner_of : (g : ℕ) (move : Move) (s : State) (o : Offer) → partner_offer g move s ≡ Some o → Partner g move s o
partner_of g move s o e = by (g == move.partner) refl (slice_get s.goroutines move.partner) refl e
  where
    by : (b : Bool) → (g == move.partner) ≡ b → (q : Option Goroutine) → slice_get s.goroutines move.partner ≡ q → (if b then None else offer_of move.partner_way q) ≡ Some o → Partner g move s o
    by true r q i h = absurd (cc)
    by false r None i h = absurd (cc)
    by false r (Some x) i h = record { goroutine = x; is_at = i; is_other = eqb-false g move.partner r; waits_so = h }

-- a move that names the partner that was found
found_offer : (test : Offer → Bool) (g way : ℕ) (s : State) (f : PartnerFound test g s.goroutines) → partner_offer g (move_by g way f.place f.way) s ≡ Some f.offer
found_offer test g way s f = ap (λ b. if b then None else offer_of f.way (slice_get s.goroutines f.place)) f.is_other ∙ ap (offer_of f.way) f.is_at ∙ f.waits_so

module _ (p : CoreProgram) (sound : Sound p) (w : World) (gl : GlobalsLie p w) (g : ℕ) (s : State) (mt : MemoryTyped p w s.memory) (gt : GoroutinesTyped p w s.goroutines)
    (slots : List Slot) (fr : Frame) (below : List Frame) (ft : FrameTyped p w slots fr below) (bt : FramesTyped p w (gives_below fr.purpose (types_of_vars fr.results)) below) where
  waits_there : (move : Move) (o : Offer) (a : Partner g move s o) → WaitsAt p w a.goroutine.frames o
  waits_there move o a = waits_at p w a.goroutine.waiting a.goroutine.frames move.partner_way o (goroutine_at p w s.goroutines move.partner a.goroutine gt a.is_at) a.waits_so

  -- the goroutine's operation is done, with this memory after it
  pub done_goroutines : (us : List Ty) (vs : List Value) (after : List Task) → AreIn p w (values_of_types us) vs → Remains p w fr (pushed_slots (values_of_types us) slots) (after ++ fr.tasks)
      → (units : ℕ) → GoroutinesTyped p w (moved g (done_with vs after fr ∷ below) units s).goroutines
  done_goroutines us vs after h t units =
      goroutine_set p w s.goroutines g (record { frames = done_with vs after fr ∷ below; waiting = able }) gt (done_typed p sound w gl slots fr below ft bt us vs after h t)

  pub done : (us : List Ty) (vs : List Value) (after : List Task) → AreIn p w (values_of_types us) vs → Remains p w fr (pushed_slots (values_of_types us) slots) (after ++ fr.tasks)
      → (m : Memory) → MemoryTyped p w m → (units : ℕ) → WellFormed p (with_memory m (moved g (done_with vs after fr ∷ below) units s))
  done us vs after h t m mt' units = well p sound w gl (with_memory m (moved g (done_with vs after fr ∷ below) units s)) mt' (done_goroutines us vs after h t units)

  pub panicked : (q : RunPanic) → KeepsWell p (panic_step p.hidden g q 0 fr below s)
  panicked q =
      well p sound w gl (moved g (to_panicking (panic_value p.hidden q) fr ∷ below) (1 + 0) s) mt
      (goroutine_set p w s.goroutines g (record { frames = to_panicking (panic_value p.hidden q) fr ∷ below; waiting = able }) gt (panicked_typed p sound w gl slots fr below ft bt q))

  -- ---- sends

  module _ (name u : ℕ) (x : Value) (after : List Task) (t : Ty) (of_type : slice_get w.channels name ≡ Some (untagged t)) (xt : IsOf p w t x) (rest : Remains p w fr slots (after ++ fr.tasks)) where
    abbrev sent_alone : State
    sent_alone = moved g (done_with [] after fr ∷ below) (1 + u) s

    to_well : (move : Move) (o : Offer) → receives_from name o ≡ true → Partner g move s o → KeepsWell p (talk.to_partner p g move name x (Some o) sent_alone)
    to_well move (sending c y v after') e a = absurd (cc)
    to_well move (receiving None z v n after') e a = absurd (cc)
    to_well move (receiving (Some m) z v n after') e a =
        let o = receiving (Some m) z v n after' in
        let b = waits_there move o a in
        let same : IsAlike t b.offer_typed.0 = some_type (untagged t) (untagged b.offer_typed.0) (sym of_type ∙ ap (slice_get w.channels) (sym (eqb-true m name e)) ∙ b.offer_typed.1) in
        subst (λ q. KeepsWell p (if q then resumed (received n x true) after' move.partner sent_alone else None)) (sym e)
        (resumes p sound w gl sent_alone mt (done_goroutines [] [] after tt rest (1 + u)) move.partner a.goroutine
        (get_other s.goroutines g move.partner (record { frames = done_with [] after fr ∷ below; waiting = able }) (Some a.goroutine) a.is_other a.is_at) o b
        (received_types p w n b.offer_typed.0) (received n x true) after' (received_typed p w n b.offer_typed.0 x true (is_alike p w t b.offer_typed.0 x same xt)) b.offer_typed.3)

    to_keeps : (move : Move) (q : Option Offer) → partner_offer g move s ≡ q → KeepsIfThere p (talk.to_partner p g move name x q sent_alone)
    to_keeps move None e = tt
    to_keeps move (Some (sending c y v after')) e = tt
    to_keeps move (Some (receiving c z v n after')) e = by (same_name c name) refl
      where
        by : (b : Bool) → same_name c name ≡ b → KeepsIfThere p (talk.to_partner p g move name x (Some (receiving c z v n after')) sent_alone)
        by true r = if_there p (talk.to_partner p g move name x (Some (receiving c z v n after')) sent_alone) (to_well move (receiving c z v n after') r (partner_of g move s (receiving c z v n after') e))
        by false r = subst (λ b. KeepsIfThere p (if b then resumed (received n x true) after' move.partner sent_alone else None)) (sym r) tt

    -- it has room
    with_room : (c : Channel) → AllOf p w t c.values → WellFormed p (with_memory (set_channel s.memory name (record c { values = c.values ++ x ∷ [] })) sent_alone)
    with_room c h =
        done [] [] after tt rest (set_channel s.memory name (record c { values = c.values ++ x ∷ [] }))
        (sets_channel p w s.memory name t (record c { values = c.values ++ x ∷ [] }) mt of_type (all_append p w t c.values x h xt)) (1 + u)

    pub sent_keeps : (move : Move) (c : Channel) → AllOf p w t c.values → KeepsIfThere p (talk.sent p g move name x u after c fr below s)
    sent_keeps move c h =
        let room = Some (with_memory (set_channel s.memory name (record c { values = c.values ++ x ∷ [] })) sent_alone) in
        let meeting = if c.capacity == 0 then talk.to_partner p g move name x (partner_offer g move s) sent_alone else None in
        if_state (KeepsIfThere p) c.closed (panic_step p.hidden g send_on_closed 0 fr below s) (if nat_lt (length c.values) c.capacity then room else meeting)
        (λ e. panicked send_on_closed)
        (λ e. if_state (KeepsIfThere p) (nat_lt (length c.values) c.capacity) room meeting
        (λ f. with_room c h)
        (λ f. if_state (KeepsIfThere p) (c.capacity == 0) (talk.to_partner p g move name x (partner_offer g move s) sent_alone) None
        (λ k. to_keeps move (partner_offer g move s) refl) (λ k. tt)))

    pub sent_goes : (way : ℕ) (c : Channel) → send_ready (Some c) (has_partner (receives_from name) g 0 s.goroutines) ≡ true → (move : Move) × (move.goroutine ≡ g) × (move.way ≡ way) × IsThere (talk.sent p g move name x u after c fr below s)
    sent_goes way c ready = by_closed c.closed refl
      where
        room : Option State
        room = Some (with_memory (set_channel s.memory name (record c { values = c.values ++ x ∷ [] })) sent_alone)

        at_closed : Option State
        at_closed = panic_step p.hidden g send_on_closed 0 fr below s

        meeting : Move → Option State
        meeting move = talk.to_partner p g move name x (partner_offer g move s) sent_alone

        by_partner : (f : PartnerFound (receives_from name) g s.goroutines) → IsThere (talk.to_partner p g (move_by g way f.place f.way) name x (partner_offer g (move_by g way f.place f.way) s) sent_alone)
        by_partner f =
            let move = move_by g way f.place f.way in
            subst (λ q. IsThere (talk.to_partner p g move name x q sent_alone)) (sym (found_offer (receives_from name) g way s f))
            (there p (talk.to_partner p g move name x (Some f.offer) sent_alone)
            (to_well move f.offer f.passes (record { goroutine = f.goroutine; is_at = f.is_at; is_other = eqb-false g f.place f.is_other; waits_so = f.waits_so })))

        by_room : (b : Bool) → c.closed ≡ false → nat_lt (length c.values) c.capacity ≡ b → (move : Move) × (move.goroutine ≡ g) × (move.way ≡ way) × IsThere (talk.sent p g move name x u after c fr below s)
        by_room true e h = (
          move_by g way 0 0,
          refl,
          refl,
          subst (λ b. IsThere (if b then at_closed else (if nat_lt (length c.values) c.capacity then room else (if c.capacity == 0 then meeting (move_by g way 0 0) else None)))) (sym e)
              (subst (λ b. IsThere (if b then room else (if c.capacity == 0 then meeting (move_by g way 0 0) else None))) (sym h) tt),
        )
        by_room false e h =
            let m = met (c.capacity == 0) (not c.closed) (has_partner (receives_from name) g 0 s.goroutines) (last_of c.closed (nat_lt (length c.values) c.capacity) (meets c (has_partner (receives_from name) g 0 s.goroutines)) e h ready) in
            let f = partner_found (receives_from name) g s.goroutines m.1 in (
              move_by g way f.place f.way,
              refl,
              refl,
              subst (λ b. IsThere (if b then at_closed else (if nat_lt (length c.values) c.capacity then room else (if c.capacity == 0 then meeting (move_by g way f.place f.way) else None)))) (sym e)
                  (subst (λ b. IsThere (if b then room else (if c.capacity == 0 then meeting (move_by g way f.place f.way) else None))) (sym h)
                  (subst (λ b. IsThere (if b then meeting (move_by g way f.place f.way) else None)) (sym m.0) (by_partner f))),
            )

        by_closed : (b : Bool) → c.closed ≡ b → (move : Move) × (move.goroutine ≡ g) × (move.way ≡ way) × IsThere (talk.sent p g move name x u after c fr below s)
        by_closed true e =
            (move_by g way 0 0, refl, refl, subst (λ b. IsThere (if b then at_closed else (if nat_lt (length c.values) c.capacity then room else (if c.capacity == 0 then meeting (move_by g way 0 0) else None)))) (sym e) tt)
        by_closed false e = by_room (nat_lt (length c.values) c.capacity) e refl

  -- ---- receives

  module _ (name u n : ℕ) (zero_ : Value) (after : List Task) (t : Ty) (of_type : slice_get w.channels name ≡ Some (untagged t)) (zt : IsOf p w t zero_)
      (rest : Remains p w fr (pushed_slots (values_of_types (received_types p w n t)) slots) (after ++ fr.tasks)) where
    abbrev received_alone : Value → Bool → State
    received_alone x ok = moved g (done_with (received n x ok) after fr ∷ below) (1 + u) s

    from_well : (move : Move) (o : Offer) → sends_to name o ≡ true → Partner g move s o → KeepsWell p (talk.from_partner p g move name n after (Some o) fr below u s)
    from_well move (receiving c z v m after') e a = absurd (cc)
    from_well move (sending None x v after') e a = absurd (cc)
    from_well move (sending (Some m) x v after') e a =
        let o = sending (Some m) x v after' in
        let b = waits_there move o a in
        let same : IsAlike b.offer_typed.0 t = some_type (untagged b.offer_typed.0) (untagged t) (sym b.offer_typed.1 ∙ ap (slice_get w.channels) (eqb-true m name e) ∙ of_type) in
        let xt = is_alike p w b.offer_typed.0 t x same b.offer_typed.2 in
        subst (λ q. KeepsWell p (if q then resumed [] after' move.partner (received_alone x true) else None)) (sym e)
        (resumes p sound w gl (received_alone x true) mt (done_goroutines (received_types p w n t) (received n x true) after (received_typed p w n t x true xt) rest (1 + u)) move.partner a.goroutine
        (get_other s.goroutines g move.partner (record { frames = done_with (received n x true) after fr ∷ below; waiting = able }) (Some a.goroutine) a.is_other a.is_at) o b
        [] [] after' tt b.offer_typed.3)

    from_keeps : (move : Move) (q : Option Offer) → partner_offer g move s ≡ q → KeepsIfThere p (talk.from_partner p g move name n after q fr below u s)
    from_keeps move None e = tt
    from_keeps move (Some (receiving c z v m after')) e = tt
    from_keeps move (Some (sending c x v after')) e = by (same_name c name) refl
      where
        by : (b : Bool) → same_name c name ≡ b → KeepsIfThere p (talk.from_partner p g move name n after (Some (sending c x v after')) fr below u s)
        by true r = if_there p (talk.from_partner p g move name n after (Some (sending c x v after')) fr below u s) (from_well move (sending c x v after') r (partner_of g move s (sending c x v after') e))
        by false r = subst (λ b. KeepsIfThere p (if b then resumed [] after' move.partner (received_alone x true) else None)) (sym r) tt

    -- a value was there
    front_taken : (c : Channel) (x : Value) (xs : List Value) → IsOf p w t x → AllOf p w t xs → WellFormed p (with_memory (set_channel s.memory name (record c { values = xs })) (received_alone x true))
    front_taken c x xs h k =
        done (received_types p w n t) (received n x true) after (received_typed p w n t x true h) rest (set_channel s.memory name (record c { values = xs })) (sets_channel p w s.memory name t (record c { values = xs }) mt of_type k) (1 + u)

    -- none will be there
    none_left : WellFormed p (received_alone zero_ false)
    none_left = well p sound w gl (received_alone zero_ false) mt (done_goroutines (received_types p w n t) (received n zero_ false) after (received_typed p w n t zero_ false zt) rest (1 + u))

    pub taken_keeps : (move : Move) (c : Channel) (vs : List Value) → AllOf p w t vs → KeepsIfThere p (talk.taken_from p g move vs name zero_ u n after c fr below s)
    taken_keeps move c (x ∷ xs) h = front_taken c x xs h.0 h.1
    taken_keeps move c [] h =
        if_state (KeepsIfThere p) c.closed (Some (received_alone zero_ false)) (if c.capacity == 0 then talk.from_partner p g move name n after (partner_offer g move s) fr below u s else None)
        (λ e. none_left)
        (λ e. if_state (KeepsIfThere p) (c.capacity == 0) (talk.from_partner p g move name n after (partner_offer g move s) fr below u s) None
        (λ k. from_keeps move (partner_offer g move s) refl) (λ k. tt))

    pub taken_goes : (way : ℕ) (c : Channel) (vs : List Value) → (not (is_empty vs) || c.closed || meets c (has_partner (sends_to name) g 0 s.goroutines)) ≡ true
        → (move : Move) × (move.goroutine ≡ g) × (move.way ≡ way) × IsThere (talk.taken_from p g move vs name zero_ u n after c fr below s)
    taken_goes way c (x ∷ xs) ready = (move_by g way 0 0, refl, refl, tt)
    taken_goes way c [] ready = by_closed c.closed refl
      where
        meeting : Move → Option State
        meeting move = talk.from_partner p g move name n after (partner_offer g move s) fr below u s

        over : Option State
        over = Some (received_alone zero_ false)

        by_partner : (f : PartnerFound (sends_to name) g s.goroutines) → IsThere (talk.from_partner p g (move_by g way f.place f.way) name n after (partner_offer g (move_by g way f.place f.way) s) fr below u s)
        by_partner f =
            let move = move_by g way f.place f.way in
            subst (λ q. IsThere (talk.from_partner p g move name n after q fr below u s)) (sym (found_offer (sends_to name) g way s f))
            (there p (talk.from_partner p g move name n after (Some f.offer) fr below u s)
            (from_well move f.offer f.passes (record { goroutine = f.goroutine; is_at = f.is_at; is_other = eqb-false g f.place f.is_other; waits_so = f.waits_so })))

        by_closed : (b : Bool) → c.closed ≡ b → (move : Move) × (move.goroutine ≡ g) × (move.way ≡ way) × IsThere (talk.taken_from p g move [] name zero_ u n after c fr below s)
        by_closed true e = (move_by g way 0 0, refl, refl, subst (λ b. IsThere (if b then over else (if c.capacity == 0 then meeting (move_by g way 0 0) else None))) (sym e) tt)
        by_closed false e =
            let m = met (c.capacity == 0) (not c.closed) (has_partner (sends_to name) g 0 s.goroutines) (last_of false c.closed (meets c (has_partner (sends_to name) g 0 s.goroutines)) refl e ready) in
            let f = partner_found (sends_to name) g s.goroutines m.1 in (
              move_by g way f.place f.way,
              refl,
              refl,
              subst (λ b. IsThere (if b then over else (if c.capacity == 0 then meeting (move_by g way f.place f.way) else None))) (sym e)
                  (subst (λ b. IsThere (if b then meeting (move_by g way f.place f.way) else None)) (sym m.0) (by_partner f)),
            )

  -- ---- a way

  pub offer_keeps : (move : Move) (o : Offer) → OfferTyped p w fr slots o → KeepsIfThere p (talk.offer_taken p g move (Some o) fr below s)
  offer_keeps move (sending None x u after) h = tt
  offer_keeps move (sending (Some name) x u after) h =
      let c = channel_found p w w.channels s.memory.channels name h.0 mt.channels_typed h.1 in
      subst (λ q. KeepsIfThere p (option_and_then (λ state. talk.sent p g move name x u after state fr below s) q)) (sym c.is_at) (sent_keeps name u x after h.0 h.1 h.2 h.3 move c.at c.typed)
  offer_keeps move (receiving None z u n after) h = tt
  offer_keeps move (receiving (Some name) z u n after) h =
      let c = channel_found p w w.channels s.memory.channels name h.0 mt.channels_typed h.1 in
      subst (λ q. KeepsIfThere p (option_and_then (λ state. talk.taken_from p g move state.values name z u n after state fr below s) q)) (sym c.is_at) (taken_keeps name u n z after h.0 h.1 h.2 h.3 move c.at c.at.values c.typed)

  -- a way that is ready can be taken, whatever it is among those of the goroutine
  pub offer_goes : (way : ℕ) (o : Offer) → OfferTyped p w fr slots o → offer_ready g s o ≡ true → (move : Move) × (move.goroutine ≡ g) × (move.way ≡ way) × IsThere (talk.offer_taken p g move (Some o) fr below s)
  offer_goes way (sending None x u after) h e = absurd (cc)
  offer_goes way (sending (Some name) x u after) h e =
      let c = channel_found p w w.channels s.memory.channels name h.0 mt.channels_typed h.1 in
      let ready = subst (λ q. send_ready q (has_partner (receives_from name) g 0 s.goroutines) ≡ true) c.is_at e in
      let f = sent_goes name u x after h.0 h.1 h.2 h.3 way c.at ready in
      (f.0, f.1, f.2, subst (λ q. IsThere (option_and_then (λ state. talk.sent p g f.0 name x u after state fr below s) q)) (sym c.is_at) f.3)
  offer_goes way (receiving None z u n after) h e = absurd (cc)
  offer_goes way (receiving (Some name) z u n after) h e =
      let c = channel_found p w w.channels s.memory.channels name h.0 mt.channels_typed h.1 in
      let ready = subst (λ q. receive_ready q (has_partner (sends_to name) g 0 s.goroutines) ≡ true) c.is_at e in
      let f = taken_goes name u n z after h.0 h.1 h.2 h.3 way c.at c.at.values ready in
      (f.0, f.1, f.2, subst (λ q. IsThere (option_and_then (λ state. talk.taken_from p g f.0 state.values name z u n after state fr below s) q)) (sym c.is_at) f.3)
