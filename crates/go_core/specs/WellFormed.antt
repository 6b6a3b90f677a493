-- Go specification (as of Go 1.17), "Program execution", "Go statements", "Defer statements", "Handling panics":
-- the states in which each goroutine's frames are typed, and memory holds values of the types of its places.
use Rattle.std.specs.Prelude.{◌≡◌, ℕ, zero, suc, List, [], ◌∷◌, ◌++◌, Option, Some, None, slice_get}
use Rattle.go_type.specs.Tree as ty
use Rattle.go_type.specs.Tree.{Ty}
use Rattle.go_core.specs.CoreTree.{CoreProgram}
use Rattle.go_core.specs.TypeOf.{int_type, global_type}
use Rattle.go_core.specs.Untagged.{untagged, AreAlike}
use Rattle.go_core.specs.SoundNode.{types_of_vars}
use Rattle.go_core.specs.Sound.{empty_interface}
use Rattle.go_core.specs.StepMemory.{global_base}
use Rattle.go_core.specs.Goroutine.{Task, Invocation, invoke, nothing_to_invoke, Mode, panicking, Purpose, called, reporting, Place, Frame, Offer, sending, receiving, Waiting, able, at_channels, at_take, at_await, Goroutine, State}
use Rattle.go_core.specs.Leaves.{leaf, leaves_of, Spans}
use Rattle.go_core.specs.Typed.{World, VarAt, Takes, ScalarTyped, IsOf, MemoryTyped}
use Rattle.go_core.specs.Applies.{Slot, values_of_types, pushed_slots, AreIn}
use Rattle.go_core.specs.TasksTyped.{HasVars, TasksTyped}

abbrev pub ids_of : List Place → List ℕ
ids_of [] = []
ids_of (x ∷ xs) = x.var ∷ ids_of xs

-- what of its results goes to the frame below
abbrev pub gives_below : Purpose → List Ty → List Ty
gives_below called results = results
gives_below _ results = []

module _ (p : CoreProgram) (w : World) where
  abbrev pub PlacesTyped : List Place → Type 0
  PlacesTyped [] = Unit {0}
  PlacesTyped (x ∷ xs) = VarAt p w.cells x.var x.base × PlacesTyped xs

  -- the package variables lie one after another, from the beginning
  abbrev pub GlobalsLie : Type 0
  GlobalsLie = (n : ℕ) (t : Ty) → global_type (slice_get p.globals n) ≡ Some t → Spans w.cells (global_base p.names p.globals n) (leaves_of p.names t)

  abbrev pub InvocationTyped : Invocation → Type 0
  InvocationTyped (invoke func bases row operands) =
      (ts : List Ty) × (results : List Ty) × Takes p w.cells func bases row ts results × AreIn p w (values_of_types ts) operands
  InvocationTyped nothing_to_invoke = Unit {0}

  abbrev pub InvocationsTyped : List Invocation → Type 0
  InvocationsTyped [] = Unit {0}
  InvocationsTyped (i ∷ is) = InvocationTyped i × InvocationsTyped is

  -- a panic's value is an interface value
  abbrev pub ModeTyped : Mode → Type 0
  ModeTyped (panicking v) = ScalarTyped p w (leaf empty_interface) v
  ModeTyped _ = Unit {0}

  -- the answer of `Error` is a string, and no frame is below
  abbrev pub PurposeFits : Purpose → List Ty → List Frame → Type 0
  PurposeFits reporting results below = (results ≡ ty.str ∷ []) × (below ≡ [])
  PurposeFits _ results below = Unit {0}

  -- all but what remains of its body
  pub record FrameTyped (slots : List Slot) (f : Frame) (below : List Frame) : Type 0 where
    pub values_typed : AreIn p w slots f.values
    pub places_typed : PlacesTyped f.places
    pub results_had : HasVars p (ids_of f.places) f.results
    pub deferred_typed : InvocationsTyped f.deferred_calls
    pub mode_typed : ModeTyped f.mode
    pub purpose_fits : PurposeFits f.purpose (types_of_vars f.results) below

  -- what remains of it, on these slots
  abbrev pub Remains : Frame → List Slot → List Task → Type 0
  Remains f slots ts = TasksTyped p w (types_of_vars f.results) (ids_of f.places) slots ts

  -- what remains of it goes on once values of these types, but for tags, are there
  abbrev pub GoesOn : Frame → List Slot → List Ty → Type 0
  GoesOn f slots given = (wanted : List Ty) × AreAlike given wanted × Remains f (pushed_slots (values_of_types wanted) slots) f.tasks

  -- frames that go on once values of these types are there
  abbrev pub FramesTyped : List Ty → List Frame → Type 0
  FramesTyped given [] = Unit {0}
  FramesTyped given (f ∷ below) =
      ((slots : List Slot) × FrameTyped slots f below × GoesOn f slots given)
      × FramesTyped (gives_below f.purpose (types_of_vars f.results)) below

  -- ---- waiting

  -- a nil channel is of each type
  abbrev pub ChannelFits : Option ℕ → Ty → Type 0
  ChannelFits None t = Unit {0}
  ChannelFits (Some name) t = slice_get w.channels name ≡ Some (untagged t)

  abbrev pub received_types : ℕ → Ty → List Ty
  received_types zero t = []
  received_types (suc zero) t = t ∷ []
  received_types (suc (suc n)) t = t ∷ ty.bool ∷ []

  abbrev pub OfferTyped : Frame → List Slot → Offer → Type 0
  OfferTyped f slots (sending c x units after) = (t : Ty) × ChannelFits c t × IsOf p w t x × Remains f slots (after ++ f.tasks)
  OfferTyped f slots (receiving c zero_ units n after) =
      (t : Ty) × ChannelFits c t × IsOf p w t zero_ × Remains f (pushed_slots (values_of_types (received_types n t)) slots) (after ++ f.tasks)

  abbrev pub OffersTyped : Frame → List Slot → List Offer → Type 0
  OffersTyped f slots [] = Unit {0}
  OffersTyped f slots (o ∷ os) = OfferTyped f slots o × OffersTyped f slots os

  abbrev pub WaitsTyped : Waiting → Frame → List Slot → Type 0
  WaitsTyped able f slots = Remains f slots f.tasks
  WaitsTyped (at_channels offers) f slots = OffersTyped f slots offers
  WaitsTyped (at_take gate) f slots = Spans w.cells gate (leaf int_type ∷ []) × Remains f slots f.tasks
  WaitsTyped (at_await gate) f slots = Spans w.cells gate (leaf int_type ∷ []) × Remains f slots f.tasks

  abbrev pub GoroutineTyped : Waiting → List Frame → Type 0
  GoroutineTyped waiting [] = waiting ≡ able
  GoroutineTyped waiting (f ∷ below) =
      ((slots : List Slot) × FrameTyped slots f below × WaitsTyped waiting f slots) × FramesTyped (gives_below f.purpose (types_of_vars f.results)) below

  abbrev pub GoroutinesTyped : List Goroutine → Type 0
  GoroutinesTyped [] = Unit {0}
  GoroutinesTyped (x ∷ xs) = GoroutineTyped x.waiting x.frames × GoroutinesTyped xs

pub record WellFormed (p : CoreProgram) (s : State) : Type 0 where
  pub world : World
  pub globals_lie : GlobalsLie p world
  pub memory_typed : MemoryTyped p world s.memory
  pub goroutines_typed : GoroutinesTyped p world s.goroutines
