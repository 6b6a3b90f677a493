-- What a step of a frame comes to, by the answer.
use Rattle.std.proofs.Common.{◌≡◌, sym, ◌∙◌, subst, ℕ, List}
use Rattle.std.specs.Prelude.{Option, Result, Ok, Err, IsErrAnd}
use Rattle.go_type.specs.Tree.{Ty}
use Rattle.go_core.specs.CoreTree.{CoreProgram}
use Rattle.go_core.specs.Goroutine as defined
use Rattle.go_core.specs.Goroutine.{with_memory}
use Rattle.go_values.specs.ValuesSeen.{memory_of}
use Rattle.go_values.specs.declared.values.memory.Memory.{Memory}
use Rattle.go_values.specs.declared.operators.did.Stop.{Stop}
use Rattle.go_values.specs.declared.operators.did.Stop.TheVariants as stop
use Rattle.go_state.specs.StateSeen.{frame_of}
use Rattle.go_state.specs.declared.state.frame.Frame.{Frame}
use Rattle.go_state.specs.FrameStepsFound.{NoStep}
use Rattle.go_state.specs.Goes.{Goes, Halts, FrameStep}

module _ (p : CoreProgram) (ts : List Ty) where
  -- what `?` hands on
  pub halted : (r : Result ℕ Stop) (x : Stop) (f f' : Frame) (m m' : Memory) (step : FrameStep) → IsErrAnd r (λ y. y ≡ x)
      → Halts p ts x f' m' (λ g below s. step g (frame_of ts f) below (with_memory (memory_of ts m) s)) → Goes p ts r f f' m m' step
  halted (Ok a) x f f' m m' step i h = absurd i
  halted (Err y) x f f' m m' step i h =
      subst (λ (z : Stop). Halts p ts z f' m' (λ g below s. step g (frame_of ts f) below (with_memory (memory_of ts m) s))) (sym i) h

  -- an operand isn't there
  lacks : (x : Stop) (f : Frame) (m : Memory) (step : ℕ → List defined.Frame → defined.State → Option defined.State)
      → ((g : ℕ) (below : List defined.Frame) (s : defined.State) → NoStep x (step g below s)) → Halts p ts x f m step
  lacks stop.NoMemory f m step h = tt
  lacks stop.NoStep f m step h = h
  lacks (stop.Panics q u) f m step h = λ g below s. absurd (h g below s)

  pub lacked : (r : Result ℕ Stop) (x : Stop) (f f' : Frame) (m m' : Memory) (step : FrameStep) → IsErrAnd r (λ y. y ≡ x)
      → ((g : ℕ) (below : List defined.Frame) (s : defined.State) → NoStep x (step g (frame_of ts f) below (with_memory (memory_of ts m) s)))
      → Goes p ts r f f' m m' step
  lacked r x f f' m m' step i h =
      halted r x f f' m m' step i (lacks x f' m' (λ g below s. step g (frame_of ts f) below (with_memory (memory_of ts m) s)) h)

  -- what another step comes to, from another frame
  pub same_step : (r : Result ℕ Stop) (f f1 f' : Frame) (m m' : Memory) (step other : FrameStep)
      → ((g : ℕ) (below : List defined.Frame) (s : defined.State)
      → other g (frame_of ts f) below (with_memory (memory_of ts m) s) ≡ step g (frame_of ts f1) below (with_memory (memory_of ts m) s))
      → Goes p ts r f1 f' m m' step → Goes p ts r f f' m m' other
  same_step (Ok units) f f1 f' m m' step other h k = λ g below s. h g below s ∙ k g below s
  same_step (Err stop.NoMemory) f f1 f' m m' step other h k = tt
  same_step (Err stop.NoStep) f f1 f' m m' step other h k = λ g below s. h g below s ∙ k g below s
  same_step (Err (stop.Panics q u)) f f1 f' m m' step other h k = λ g below s. h g below s ∙ k g below s
