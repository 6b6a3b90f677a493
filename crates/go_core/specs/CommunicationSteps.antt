-- The steps of communication: those of a goroutine that reaches an operation on a channel or a gate, and those of one
-- that waits at such operations, with the partner that moves in the same step.
use Rattle.std.specs.Prelude.{◌≡◌, ℕ, List, [], ◌∷◌, true, false, Option, Some, None, slice_get}
use Rattle.go_core.specs.CoreTree.{CoreProgram}
use Rattle.go_core.specs.SoundProgram.{Sound}
use Rattle.go_core.specs.Goroutine as task
use Rattle.go_core.specs.Goroutine.{Task, Frame, Waiting, able, Goroutine, State, Move}
use Rattle.go_core.specs.Communicate.{waiting_ready}
use Rattle.go_core.specs.GoStep.{goroutine_step}
use Rattle.go_core.specs.WellFormed.{WellFormed}

-- operations on channels and gates
abbrev pub IsCommunication : Task → Type 0
IsCommunication (task.send_to t) = Unit {0}
IsCommunication (task.receive_from t ok) = Unit {0}
IsCommunication (task.close_channel) = Unit {0}
IsCommunication (task.select_from label cases n has_default body) = Unit {0}
IsCommunication (task.take_gate) = Unit {0}
IsCommunication (task.add_to_gate) = Unit {0}
IsCommunication (task.await_gate) = Unit {0}
IsCommunication _ = ⊥

-- the first task that is a step is one of these
abbrev pub StartsCommunication : List Task → Type 0
StartsCommunication [] = ⊥
StartsCommunication (task.drop_values n ∷ ts) = StartsCommunication ts
StartsCommunication (task.push_value x ∷ ts) = StartsCommunication ts
StartsCommunication (task.leave label ∷ ts) = StartsCommunication ts
StartsCommunication (t ∷ ts) = IsCommunication t

abbrev pub IsThere : Option State → Type 0
IsThere None = ⊥
IsThere (Some s) = Unit {0}

-- a move that is not to be made leaves no state
abbrev pub KeepsIfThere : CoreProgram → Option State → Type 0
KeepsIfThere p None = Unit {0}
KeepsIfThere p (Some s) = WellFormed p s

-- a move of this goroutine that can be made
pub record Goes (g : ℕ) (step : Move → Option State) : Type 0 where
  pub move : Move
  pub is_its : move.goroutine ≡ g
  pub is_there : IsThere (step move)

-- whatever the move, the state that it leaves is well formed, and some move can be made
pub record GoesWell (p : CoreProgram) (g : ℕ) (step : Move → Option State) : Type 0 where
  pub keeps : (move : Move) → KeepsIfThere p (step move)
  pub goes : Goes g step

-- an able goroutine whose next step is one of communication
abbrev pub CommunicationsKeep : Type 0
CommunicationsKeep =
    (p : CoreProgram) (choices : List ℕ) (g : ℕ) (f : Frame) (below : List Frame) (s : State)
    → Sound p → WellFormed p s → slice_get s.goroutines g ≡ Some (record { frames = f ∷ below; waiting = able }) → StartsCommunication f.tasks
    → GoesWell p g (λ move. goroutine_step p choices move g (slice_get s.goroutines g) s)

-- a goroutine that waits: its moves leave well formed states
abbrev pub WaitingKeeps : Type 0
WaitingKeeps =
    (p : CoreProgram) (choices : List ℕ) (move : Move) (g : ℕ) (f : Frame) (below : List Frame) (w : Waiting) (s : State)
    → Sound p → WellFormed p s → slice_get s.goroutines g ≡ Some (record { frames = f ∷ below; waiting = w }) → (w ≡ able → ⊥)
    → KeepsIfThere p (goroutine_step p choices move g (slice_get s.goroutines g) s)

-- and it has one as soon as what it waits for is ready
abbrev pub ReadyGoes : Type 0
ReadyGoes =
    (p : CoreProgram) (choices : List ℕ) (g : ℕ) (f : Frame) (below : List Frame) (w : Waiting) (s : State)
    → Sound p → WellFormed p s → slice_get s.goroutines g ≡ Some (record { frames = f ∷ below; waiting = w }) → (w ≡ able → ⊥) → waiting_ready g s w ≡ true
    → Goes g (λ move. goroutine_step p choices move g (slice_get s.goroutines g) s)

-- until then it has none
abbrev pub UnreadyStays : Type 0
UnreadyStays =
    (p : CoreProgram) (choices : List ℕ) (move : Move) (g : ℕ) (f : Frame) (below : List Frame) (w : Waiting) (s : State)
    → slice_get s.goroutines g ≡ Some (record { frames = f ∷ below; waiting = w }) → waiting_ready g s w ≡ false
    → goroutine_step p choices move g (slice_get s.goroutines g) s ≡ None
