-- Frames and goroutines stay typed in a world that has more in it.
use Rattle.std.proofs.Common.{subst}
use Rattle.std.specs.Prelude.{◌≡◌, ℕ, zero, suc, List, [], ◌∷◌, ◌++◌, Option, Some, None, slice_get, slice_set}
use Rattle.go_type.specs.Tree.{Ty}
use Rattle.go_core.specs.Untagged.{untagged}
use Rattle.go_core.specs.CoreTree.{CoreProgram}
use Rattle.go_core.specs.TypeOf.{int_type}
use Rattle.go_core.specs.SoundNode.{types_of_vars}
use Rattle.go_core.specs.Goroutine.{Task, Invocation, invoke, nothing_to_invoke, Mode, normal, returning, panicking, Place, Frame, Offer, sending, receiving, Waiting, able, at_channels, at_take, at_await, Goroutine}
use Rattle.go_core.specs.Leaves.{leaf, leaves_of}
use Rattle.go_core.specs.Typed.{World, Extends}
use Rattle.go_core.specs.Applies.{Slot, values_of_types, pushed_slots}
use Rattle.go_core.specs.WellFormed.{ids_of, gives_below, PlacesTyped, GlobalsLie, InvocationTyped, InvocationsTyped, ModeTyped, FrameTyped, Remains, GoesOn, FramesTyped, ChannelFits, received_types, OfferTyped, OffersTyped, WaitsTyped, GoroutineTyped, GoroutinesTyped}
use Rattle.go_core.proofs.TypedGrowth.{spans, channel_at, var_at, takes, scalar_grows, lists_grow, are_in_grow}
use Rattle.go_core.proofs.TasksGrow.{tasks_grow}

module _ (p : CoreProgram) (w v : World) (x : Extends w v) where
  pub places : (qs : List Place) → PlacesTyped p w qs → PlacesTyped p v qs
  places [] h = tt
  places (q ∷ qs) h = (var_at p w v x q.var q.base h.0, places qs h.1)

  invocation : (i : Invocation) → InvocationTyped p w i → InvocationTyped p v i
  invocation (invoke func bases row operands) h = (h.0, h.1, takes p w v x func bases row h.0 h.1 h.2, are_in_grow p w v x (values_of_types h.0) operands h.3)
  invocation nothing_to_invoke h = tt

  invocations : (is : List Invocation) → InvocationsTyped p w is → InvocationsTyped p v is
  invocations [] h = tt
  invocations (i ∷ is) h = (invocation i h.0, invocations is h.1)

  mode : (m : Mode) → ModeTyped p w m → ModeTyped p v m
  mode (panicking y) h = scalar_grows p w v x _ y h
  mode normal h = tt
  mode returning h = tt

  pub frame : (slots : List Slot) (f : Frame) (below : List Frame) → FrameTyped p w slots f below → FrameTyped p v slots f below
  frame slots f below h = record {
    values_typed = are_in_grow p w v x slots f.values h.values_typed;
    places_typed = places f.places h.places_typed;
    results_had = h.results_had;
    deferred_typed = invocations f.deferred_calls h.deferred_typed;
    mode_typed = mode f.mode h.mode_typed;
    purpose_fits = h.purpose_fits;
  }

  pub remains : (f : Frame) (slots : List Slot) (ts : List Task) → Remains p w f slots ts → Remains p v f slots ts
  remains f slots ts h = tasks_grow p w v (types_of_vars f.results) x (ids_of f.places) slots ts h (ids_of f.places) (λ u k. k)

  goes_on : (f : Frame) (slots : List Slot) (given : List Ty) → GoesOn p w f slots given → GoesOn p v f slots given
  goes_on f slots given h = (h.0, h.1, remains f (pushed_slots (values_of_types h.0) slots) f.tasks h.2)

  pub frames : (given : List Ty) (fs : List Frame) → FramesTyped p w given fs → FramesTyped p v given fs
  frames given [] h = tt
  frames given (f ∷ below) h =
      ((h.0.0, frame h.0.0 f below h.0.1, goes_on f h.0.0 given h.0.2), frames (gives_below f.purpose (types_of_vars f.results)) below h.1)

  fits : (c : Option ℕ) (t : Ty) → ChannelFits p w c t → ChannelFits p v c t
  fits None t h = tt
  fits (Some name) t h = channel_at p w v x name (untagged t) h

  offer : (f : Frame) (slots : List Slot) (o : Offer) → OfferTyped p w f slots o → OfferTyped p v f slots o
  offer f slots (sending c y units after) h = (h.0, fits c h.0 h.1, lists_grow p w v x (leaves_of p.names h.0) y h.2, remains f slots (after ++ f.tasks) h.3)
  offer f slots (receiving c zero_ units n after) h =
      (h.0, fits c h.0 h.1, lists_grow p w v x (leaves_of p.names h.0) zero_ h.2, remains f (pushed_slots (values_of_types (received_types p w n h.0)) slots) (after ++ f.tasks) h.3)

  offers : (f : Frame) (slots : List Slot) (os : List Offer) → OffersTyped p w f slots os → OffersTyped p v f slots os
  offers f slots [] h = tt
  offers f slots (o ∷ os) h = (offer f slots o h.0, offers f slots os h.1)

  waits : (q : Waiting) (f : Frame) (slots : List Slot) → WaitsTyped p w q f slots → WaitsTyped p v q f slots
  waits able f slots h = remains f slots f.tasks h
  waits (at_channels os) f slots h = offers f slots os h
  waits (at_take gate) f slots h = (spans p w v x gate (leaf int_type ∷ []) h.0, remains f slots f.tasks h.1)
  waits (at_await gate) f slots h = (spans p w v x gate (leaf int_type ∷ []) h.0, remains f slots f.tasks h.1)

  goroutine : (q : Waiting) (fs : List Frame) → GoroutineTyped p w q fs → GoroutineTyped p v q fs
  goroutine q [] h = h
  goroutine q (f ∷ below) h = ((h.0.0, frame h.0.0 f below h.0.1, waits q f h.0.0 h.0.2), frames (gives_below f.purpose (types_of_vars f.results)) below h.1)

  pub goroutines : (gs : List Goroutine) → GoroutinesTyped p w gs → GoroutinesTyped p v gs
  goroutines [] h = tt
  goroutines (q ∷ qs) h = (goroutine q.waiting q.frames h.0, goroutines qs h.1)

  pub globals : GlobalsLie p w → GlobalsLie p v
  globals h = λ n t e. spans p w v x _ (leaves_of p.names t) (h n t e)

module _ (p : CoreProgram) (w : World) where
  some_inj : (a b : Goroutine) → Some a ≡ Some b → a ≡ b
  some_inj a b e = cc

  -- a goroutine of the state
  pub goroutine_at : (gs : List Goroutine) (g : ℕ) (q : Goroutine) → GoroutinesTyped p w gs → slice_get gs g ≡ Some q → GoroutineTyped p w q.waiting q.frames
  goroutine_at [] g q h e = absurd (cc)
  goroutine_at (y ∷ ys) zero q h e = subst (λ (z : Goroutine). GoroutineTyped p w z.waiting z.frames) (some_inj y q e) h.0
  goroutine_at (y ∷ ys) (suc g) q h e = goroutine_at ys g q h.1 e

  -- one of them is another
  pub goroutine_set : (gs : List Goroutine) (g : ℕ) (q : Goroutine) → GoroutinesTyped p w gs → GoroutineTyped p w q.waiting q.frames → GoroutinesTyped p w (slice_set gs g q)
  goroutine_set [] g q h k = tt
  goroutine_set (y ∷ ys) zero q h k = (k, h.1)
  goroutine_set (y ∷ ys) (suc g) q h k = (h.0, goroutine_set ys g q h.1 k)
