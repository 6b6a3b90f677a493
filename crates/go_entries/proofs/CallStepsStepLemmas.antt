-- Receivers that are read, results that are set, and panics that are raised.
use Rattle.std.proofs.Common.{◌≡◌, refl, length, ℕ, zero, suc, List, [], ◌∷◌}
use Rattle.std.specs.Prelude.{Option, None, Result, Err, IsErrAnd}
use Rattle.go_type.specs.Tree.{Ty}
use Rattle.go_core.specs.Calls as calls
use Rattle.go_core.specs.CoreTree.{CoreProgram, Var}
use Rattle.go_core.specs.Frames.{on_operands}
use Rattle.go_core.specs.Goroutine as defined
use Rattle.go_core.specs.Goroutine.{with_memory}
use Rattle.go_core.specs.Memory as core
use Rattle.go_core.specs.Memory.{Value}
use Rattle.go_core.specs.Panics.{raised}
use Rattle.go_state.specs.Bound.{Written}
use Rattle.go_values.specs.ValuesSeen.{memory_of}
use Rattle.go_values.specs.declared.values.memory.Memory.{Memory}
use Rattle.go_values.specs.declared.operators.did.Stop.{Stop}
use Rattle.go_values.specs.declared.operators.did.Stop.TheVariants as stop
use Rattle.go_state.specs.StateSeen.{frame_of}
use Rattle.go_state.specs.declared.state.frame.Frame.{Frame}
use Rattle.go_state.specs.Goes.{Goes, Halts, FrameStep}
use Rattle.go_state.proofs.GoesLemmas.{halted}

module _ (p : CoreProgram) (g : ℕ) where
  module _ (v : Var) (below : List defined.Frame) (s : defined.State) (f : defined.Frame) where
    many_read : (x y : core.Scalar) (ys : Value) → calls.read_through p g v below s (x ∷ y ∷ ys) f ≡ None
    many_read (core.pointer base) y ys = refl
    many_read core.nil y ys = refl
    many_read x y ys = refl

    -- a receiver is one scalar
    pub not_one_read : (x : Value) → ¬ (length x ≡ 1) → calls.read_through p g v below s x f ≡ None
    not_one_read [] h = refl
    not_one_read (x ∷ []) h = absurd (h refl)
    not_one_read (x ∷ y ∷ ys) h = many_read x y ys

  -- so is the value of a panic
  pub not_one_raised : (below : List defined.Frame) (s : defined.State) (f : defined.Frame) (x : Value) → ¬ (length x ≡ 1) → raised p g below s x f ≡ None
  not_one_raised below s f [] h = refl
  not_one_raised below s f (x ∷ []) h = absurd (h refl)
  not_one_raised below s f (x ∷ y ∷ ys) h = refl

  -- a return with values
  pub returns_some : (n : ℕ) (f : defined.Frame) (below : List defined.Frame) (s : defined.State) → ¬ (n ≡ 0)
      → calls.return_step p g n f below s
      ≡ on_operands n f (λ vs f'. calls.returned_with p g (calls.with_stored p g f'.results vs f'.places s.memory) (calls.weights p g f'.results) f' below s)
  returns_some zero f below s h = absurd (h refl)
  returns_some (suc n) f below s h = refl

-- what isn't stored
pub not_stored : (p : CoreProgram) (ts : List Ty) (r : Result ℕ Stop) (x : Stop) (o : ℕ → Option core.Memory) (w : Memory) (f f' : Frame) (m m' : Memory) (step : FrameStep) → IsErrAnd r (λ y. y ≡ x)
    → ((g : ℕ) (below : List defined.Frame) (s : defined.State) → o g ≡ None → step g (frame_of ts f) below (with_memory (memory_of ts m) s) ≡ None)
    → ((g : ℕ) → Written ts (Err x) w (o g)) → Goes p ts r f f' m m' step
not_stored p ts r x o w f f' m m' step i h l =
    halted p ts r x f f' m m' step i (by_stop x h l)
  where
    by_stop : (x : Stop) → ((g : ℕ) (below : List defined.Frame) (s : defined.State) → o g ≡ None → step g (frame_of ts f) below (with_memory (memory_of ts m) s) ≡ None)
        → ((g : ℕ) → Written ts (Err x) w (o g)) → Halts p ts x f' m' (λ g below s. step g (frame_of ts f) below (with_memory (memory_of ts m) s))
    by_stop stop.NoMemory h l = tt
    by_stop stop.NoStep h l = λ g below s. h g below s (l g)
    by_stop (stop.Panics q u) h l = absurd (l 0)
