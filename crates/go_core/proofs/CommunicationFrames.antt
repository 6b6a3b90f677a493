-- What communication changes: a channel's values, and the frames of the goroutines that go on.
use Rattle.std.proofs.Common.{◌⊎◌, inl, inr, refl, sym, ap, ◌∙◌, subst}
use Rattle.std.specs.Prelude.{◌≡◌, ℕ, zero, suc, List, [], ◌∷◌, ◌++◌, Bool, true, false, ◌||◌, ◌&&◌, if◌then◌else◌, Option, Some, None, slice_get, slice_set}
use Rattle.go_type.specs.Tree as ty
use Rattle.go_type.specs.Tree.{Ty, no_specs}
use Rattle.go_core.specs.Memory as cell
use Rattle.go_core.specs.Memory.{Scalar, Value, Memory, Channel, set_channel}
use Rattle.go_core.specs.CoreTree.{CoreProgram}
use Rattle.go_core.specs.SoundNode.{types_of_vars}
use Rattle.go_core.specs.Sound.{empty_interface}
use Rattle.go_core.specs.SoundProgram.{Sound}
use Rattle.go_core.specs.RunPanic.{RunPanic, panic_value, text_of}
use Rattle.go_core.specs.Goroutine.{Task, Frame, Offer, Waiting, able, at_channels, at_take, at_await, Goroutine, State, Move, moved}
use Rattle.go_core.specs.Frames.{to_panicking}
use Rattle.go_core.specs.Communicate.{offers_of, received, done_with, frames_of, resumed_at, resumed}
use Rattle.go_core.specs.Leaves.{leaf, leaves_of}
use Rattle.go_core.specs.Untagged.{untagged}
use Rattle.go_core.specs.Typed.{World, AnswersLike, ScalarTyped, ScalarsTyped, truth_typed, text_typed, interface_typed, none_typed, more_typed, IsOf, AllOf, ChannelsTyped, MemoryTyped}
use Rattle.go_core.specs.TasksTyped.{no_task}
use Rattle.go_core.specs.Applies.{Slot, values_of_types, pushed_slots, AreIn}
use Rattle.go_core.specs.WellFormed.{ids_of, gives_below, GlobalsLie, FrameTyped, Remains, FramesTyped, received_types, OfferTyped, OffersTyped, GoroutineTyped, GoroutinesTyped, WellFormed}
use Rattle.go_core.specs.LocalSteps.{KeepsWell}
use Rattle.go_core.specs.CommunicationSteps.{IsThere, KeepsIfThere, Goes, GoesWell}
use Rattle.go_core.proofs.UntaggedLemmas.{twice, all_alike}
use Rattle.go_core.proofs.LeavesLemmas.{under_leaves}
use Rattle.go_core.proofs.LocalFrames.{pushes_on}
use Rattle.go_core.proofs.FramesGrow.{goroutine_set}

-- ---- truth values, and lists

pub or_either : (a b : Bool) → (a || b) ≡ true → (a ≡ true) ⊎ (b ≡ true)
or_either true b e = inl refl
or_either false b e = inr e

pub and_both : (a b : Bool) → (a && b) ≡ true → (a ≡ true) × (b ≡ true)
and_both true b e = (refl, e)
and_both false b e = absurd (cc)

pub if_state : (Q : Option State → Type 0) (b : Bool) (x y : Option State) → (b ≡ true → Q x) → (b ≡ false → Q y) → Q (if b then x else y)
if_state Q true x y h k = h refl
if_state Q false x y h k = k refl

pub get_other : {A : Type 0} (xs : List A) (i j : ℕ) (x : A) (y : Option A) → (i ≡ j → ⊥) → slice_get xs j ≡ y → slice_get (slice_set xs i x) j ≡ y
get_other [] i j x y h e = e
get_other (z ∷ xs) zero zero x y h e = absurd (h refl)
get_other (z ∷ xs) zero (suc j) x y h e = e
get_other (z ∷ xs) (suc i) zero x y h e = e
get_other (z ∷ xs) (suc i) (suc j) x y h e = get_other xs i j x y (λ q. h (ap suc q)) e

pub some_type : (t u : Ty) → Some t ≡ Some u → t ≡ u
some_type t u e = cc

some_channel : (c d : Channel) → Some c ≡ Some d → c ≡ d
some_channel c d e = cc

-- ---- steps

pub if_there : (p : CoreProgram) (o : Option State) → KeepsWell p o → KeepsIfThere p o
if_there p None h = tt
if_there p (Some s) h = h

pub there : (p : CoreProgram) (o : Option State) → KeepsWell p o → IsThere o
there p None h = absurd h
there p (Some s) h = tt

-- a goroutine's move, with this way of its own and this one of a partner
abbrev pub move_by : ℕ → ℕ → ℕ → ℕ → Move
move_by g way partner partner_way = record { goroutine = g; way = way; partner = partner; partner_way = partner_way; capacity = 0; birth = None }

pub goes_at : (g : ℕ) (F : Move → Option State) (move : Move) → move.goroutine ≡ g → IsThere (F move) → Goes g F
goes_at g F move e h = record { move = move; is_its = e; is_there = h }

-- a step that does not look at its move
pub one_step : (p : CoreProgram) (g : ℕ) (F : Move → Option State) → ((move : Move) → KeepsWell p (F move)) → GoesWell p g F
one_step p g F h = record { keeps = λ move. if_there p (F move) (h move); goes = goes_at g F (move_by g 0 0 0) refl (there p (F (move_by g 0 0 0)) (h (move_by g 0 0 0))) }

-- ---- channels

module _ (p : CoreProgram) (w : World) where
  pub record ChannelFound (t : Ty) (cs : List Channel) (i : ℕ) : Type 0 where
    pub at : Channel
    pub is_at : slice_get cs i ≡ Some at
    pub typed : AllOf p w t at.values

  found_at : (ts : List Ty) (cs : List Channel) (i : ℕ) (t : Ty) → ChannelsTyped p w ts cs → slice_get ts i ≡ Some t → ChannelFound t cs i
  found_at [] cs i t h e = absurd (cc)
  found_at (u ∷ ts) [] i t h e = absurd h
  found_at (u ∷ ts) (c ∷ cs) zero t h e = record { at = c; is_at = refl; typed = subst (λ v. AllOf p w v c.values) (some_type u t e) h.0 }
  found_at (u ∷ ts) (c ∷ cs) (suc i) t h e = let f = found_at ts cs i t h.1 e in record { at = f.at; is_at = f.is_at; typed = f.typed }

  pub channel_found : (ts : List Ty) (cs : List Channel) (i : ℕ) (t : Ty) → ChannelsTyped p w ts cs → slice_get ts i ≡ Some (untagged t) → ChannelFound t cs i
  channel_found ts cs i t h e = let f = found_at ts cs i (untagged t) h e in record { at = f.at; is_at = f.is_at; typed = all_alike p w (untagged t) t f.at.values (twice t) f.typed }

  channel_set_at : (ts : List Ty) (cs : List Channel) (i : ℕ) (t : Ty) (c : Channel) → ChannelsTyped p w ts cs → slice_get ts i ≡ Some t → AllOf p w t c.values → ChannelsTyped p w ts (slice_set cs i c)
  channel_set_at [] cs i t c h e k = absurd (cc)
  channel_set_at (u ∷ ts) [] i t c h e k = absurd h
  channel_set_at (u ∷ ts) (d ∷ cs) zero t c h e k = (subst (λ v. AllOf p w v c.values) (sym (some_type u t e)) k, h.1)
  channel_set_at (u ∷ ts) (d ∷ cs) (suc i) t c h e k = (h.0, channel_set_at ts cs i t c h.1 e k)

  pub sets_channel : (m : Memory) (i : ℕ) (t : Ty) (c : Channel) → MemoryTyped p w m → slice_get w.channels i ≡ Some (untagged t) → AllOf p w t c.values → MemoryTyped p w (set_channel m i c)
  sets_channel m i t c h e k = record { cells_typed = h.cells_typed; maps_typed = h.maps_typed; channels_typed = channel_set_at w.channels m.channels i (untagged t) c h.channels_typed e (all_alike p w t (untagged t) c.values (sym (twice t)) k) }

  pub all_append : (t : Ty) (xs : List Value) (x : Value) → AllOf p w t xs → IsOf p w t x → AllOf p w t (xs ++ x ∷ [])
  all_append t [] x h k = (k, tt)
  all_append t (y ∷ ys) x h k = (h.0, all_append t ys x h.1 k)

  pub received_typed : (n : ℕ) (t : Ty) (x : Value) (ok : Bool) → IsOf p w t x → AreIn p w (values_of_types (received_types p w n t)) (received n x ok)
  received_typed zero t x ok h = tt
  received_typed (suc zero) t x ok h = (h, tt)
  received_typed (suc (suc n)) t x ok h = (h, ((truth_typed ok, tt), tt))

  -- ---- a goroutine that waits at channels

  pub offer_at : (f : Frame) (slots : List Slot) (os : List Offer) (way : ℕ) (o : Offer) → OffersTyped p w f slots os → slice_get os way ≡ Some o → OfferTyped p w f slots o
  offer_at f slots [] way o h e = absurd (cc)
  offer_at f slots (q ∷ os) zero o h e = subst (OfferTyped p w f slots) (same q o e) h.0
    where
      same : (a b : Offer) → Some a ≡ Some b → a ≡ b
      same a b e = cc
  offer_at f slots (q ∷ os) (suc way) o h e = offer_at f slots os way o h.1 e

  pub record WaitsAt (fs : List Frame) (o : Offer) : Type 0 where
    pub frame : Frame
    pub others : List Frame
    pub slots : List Slot
    pub are : fs ≡ frame ∷ others
    pub frame_typed : FrameTyped p w slots frame others
    pub others_typed : FramesTyped p w (gives_below frame.purpose (types_of_vars frame.results)) others
    pub offer_typed : OfferTyped p w frame slots o

  pub waits_at : (q : Waiting) (fs : List Frame) (way : ℕ) (o : Offer) → GoroutineTyped p w q fs → slice_get (offers_of q) way ≡ Some o → WaitsAt fs o
  waits_at able fs way o h e = absurd (cc)
  waits_at (at_take base) fs way o h e = absurd (cc)
  waits_at (at_await base) fs way o h e = absurd (cc)
  waits_at (at_channels os) [] way o h e = absurd (cc)
  waits_at (at_channels os) (f ∷ below) way o h e =
      record { frame = f; others = below; slots = h.0.0; are = refl; frame_typed = h.0.1; others_typed = h.1; offer_typed = offer_at f h.0.0 os way o h.0.2 e }

module _ (p : CoreProgram) (sound : Sound p) (w : World) (gl : GlobalsLie p w) where
  pub well : (s : State) → MemoryTyped p w s.memory → GoroutinesTyped p w s.goroutines → WellFormed p s
  well s mt gt = record { world = w; globals_lie = gl; memory_typed = mt; goroutines_typed = gt }

  -- a frame whose operation is done
  pub done_typed : (slots : List Slot) (f : Frame) (below : List Frame) → FrameTyped p w slots f below → FramesTyped p w (gives_below f.purpose (types_of_vars f.results)) below
      → (us : List Ty) (vs : List Value) (after : List Task) → AreIn p w (values_of_types us) vs → Remains p w f (pushed_slots (values_of_types us) slots) (after ++ f.tasks)
      → GoroutineTyped p w able (done_with vs after f ∷ below)
  done_typed slots f below ft bt us vs after h t = (
    (
      pushed_slots (values_of_types us) slots,
      record {
        values_typed = pushes_on p w (values_of_types us) slots vs f.values h ft.values_typed;
        places_typed = ft.places_typed;
        results_had = ft.results_had;
        deferred_typed = ft.deferred_typed;
        mode_typed = ft.mode_typed;
        purpose_fits = ft.purpose_fits;
      },
      t,
    ),
    bt,
  )

  none_asked : (t : Ty) → AnswersLike p t no_specs
  none_asked t name package_ q e = absurd (cc)

  panic_typed : (q : RunPanic) → ScalarTyped p w (leaf empty_interface) (panic_value p.hidden q)
  panic_typed q =
      interface_typed no_specs p.hidden _ (none_asked p.hidden)
      (subst (λ ls. ScalarsTyped p w ls (cell.scalar (cell.text (text_of q)) cell.no_scalars)) (sym (under_leaves p sound.names_set p.hidden ∙ ap (leaves_of p.names) sound.hidden.is_text))
      (more_typed (leaf ty.str) [] (cell.text (text_of q)) cell.no_scalars (text_typed (text_of q)) none_typed))

  -- a frame that panics
  pub panicked_typed : (slots : List Slot) (f : Frame) (below : List Frame) → FrameTyped p w slots f below → FramesTyped p w (gives_below f.purpose (types_of_vars f.results)) below
      → (q : RunPanic) → GoroutineTyped p w able (to_panicking (panic_value p.hidden q) f ∷ below)
  panicked_typed slots f below ft bt q =
      (([], record { values_typed = tt; places_typed = ft.places_typed; results_had = ft.results_had; deferred_typed = ft.deferred_typed; mode_typed = panic_typed q; purpose_fits = ft.purpose_fits }, no_task (ids_of f.places) []), bt)

  -- a waiting goroutine goes on
  pub resumes : (s : State) → MemoryTyped p w s.memory → GoroutinesTyped p w s.goroutines → (k : ℕ) (x : Goroutine) → slice_get s.goroutines k ≡ Some x → (o : Offer) (a : WaitsAt p w x.frames o)
      → (us : List Ty) (vs : List Value) (after : List Task) → AreIn p w (values_of_types us) vs → Remains p w a.frame (pushed_slots (values_of_types us) a.slots) (after ++ a.frame.tasks)
      → KeepsWell p (resumed vs after k s)
  resumes s mt gt k x e o a us vs after h t =
      subst (λ q. KeepsWell p (resumed_at vs after k (frames_of q) s)) (sym e)
      (subst (λ fs. KeepsWell p (resumed_at vs after k fs s)) (sym a.are)
      (well (moved k (done_with vs after a.frame ∷ a.others) 0 s) mt
      (goroutine_set p w s.goroutines k (record { frames = done_with vs after a.frame ∷ a.others; waiting = able }) gt (done_typed a.slots a.frame a.others a.frame_typed a.others_typed us vs after h t))))
