-- Frames of calls, above the frame that calls, and in goroutines of their own.
use Rattle.std.proofs.Common.{◌≡◌, ap, sym, ◌∙◌, subst, ℕ, List}
use Rattle.std.specs.Prelude.{Option, Result, Ok, Err, IsErrAnd}
use Rattle.go_type.specs.Tree.{Ty}
use Rattle.go_core.specs.CoreTree.{CoreProgram}
use Rattle.go_core.specs.Calls as calls
use Rattle.go_core.specs.Calls.{called_step, entered_above, go_resolved, started}
use Rattle.go_core.specs.Frames.{panic_step}
use Rattle.go_core.specs.Goroutine as defined
use Rattle.go_core.specs.Memory.{Value}
use Rattle.go_core.specs.Goroutine.{with_memory}
use Rattle.go_values.specs.ValuesSeen.{memory_of, panic_of}
use Rattle.go_values.specs.declared.values.memory.Memory.{Memory}
use Rattle.go_values.specs.declared.values.run_panic.RunPanic.{RunPanic}
use Rattle.go_values.specs.declared.operators.did.Stop.{Stop}
use Rattle.go_values.specs.declared.operators.did.Stop.TheVariants as stop
use Rattle.go_state.specs.StateSeen.{frame_of}
use Rattle.go_state.specs.declared.state.frame.Frame.{Frame}
use Rattle.go_entries.specs.EntriesSeen.{IsEntered}
use Rattle.go_entries.specs.declared.entries.enter.Entered.{Entered}
use Rattle.go_entries.specs.declared.entries.resolve.Resolved.{Resolved}
use Rattle.go_state.specs.FrameStepsFound.{NoStep}
use Rattle.go_state.specs.Goes.{FrameStep, Halts}
use Rattle.go_entries.specs.Enters.{CalleeTaken, Enters, Starts, CallEnters}

module _ (p : CoreProgram) (ts : List Ty) where
  pub call_enters : (r : Result Entered Stop) (m n : Memory) (func : ℕ) (bases : List ℕ) (row : Option ℕ) (vs : List Value)
      → IsEntered ts r n (calls.entered p func bases row vs defined.called (memory_of ts m)) → CallEnters p ts r m n (calls.ready func bases row vs)
  call_enters (Ok e) m n func bases row vs h = h
  call_enters (Err stop.NoMemory) m n func bases row vs h = tt
  call_enters (Err stop.NoStep) m n func bases row vs h = h
  call_enters (Err (stop.Panics q u)) m n func bases row vs h = h

  module _ (f f' : Frame) (m n : Memory) (step : FrameStep) where
    -- the step of a call, once what is called was found
    abbrev pub Calls : calls.Resolved → Type 0
    Calls c =
        (g : ℕ) (below : List defined.Frame) (s : defined.State)
        → step g (frame_of ts f) below (with_memory (memory_of ts m) s) ≡ called_step p g c (frame_of ts f') below (with_memory (memory_of ts m) s)

    -- the same of a goroutine that begins
    abbrev pub Begins : calls.Resolved → Type 0
    Begins c =
        (g : ℕ) (below : List defined.Frame) (s : defined.State)
        → step g (frame_of ts f) below (with_memory (memory_of ts m) s) ≡ go_resolved p g c (frame_of ts f') below (with_memory (memory_of ts m) s)

    nil_used : (q : RunPanic) (u : ℕ) (g : ℕ) (below : List defined.Frame) (s : defined.State) (r : RunPanic) → q ≡ r → u ≡ 0 → memory_of ts n ≡ memory_of ts m
        → panic_step p.hidden g (panic_of r) 0 (frame_of ts f') below (with_memory (memory_of ts m) s)
        ≡ panic_step p.hidden g (panic_of q) u (frame_of ts f') below (with_memory (memory_of ts n) s)
    nil_used q u g below s r e z k =
        ap (λ x. panic_step p.hidden g (panic_of x) 0 (frame_of ts f') below (with_memory (memory_of ts m) s)) (sym e)
        ∙ ap (λ x. panic_step p.hidden g (panic_of q) x (frame_of ts f') below (with_memory (memory_of ts m) s)) (sym z)
        ∙ ap (λ x. panic_step p.hidden g (panic_of q) u (frame_of ts f') below (with_memory x s)) (sym k)

    pub enters_by : (r : Result Entered Stop) (c : calls.Resolved) → Calls c → CallEnters p ts r m n c → Enters p ts r f f' m n step
    enters_by (Ok e) (calls.ready func bases row vs) h k = λ g below s. h g below s ∙ ap (λ o. entered_above p g o (frame_of ts f') below (with_memory (memory_of ts m) s)) k
    enters_by (Ok e) calls.nil_function h k = absurd k
    enters_by (Ok e) calls.nil_interface h k = absurd k
    enters_by (Ok e) calls.unresolved h k = absurd k
    enters_by (Err stop.NoMemory) c h k = tt
    enters_by (Err stop.NoStep) (calls.ready func bases row vs) h k = λ g below s. h g below s ∙ ap (λ o. entered_above p g o (frame_of ts f') below (with_memory (memory_of ts m) s)) k
    enters_by (Err stop.NoStep) calls.nil_function h k = absurd k
    enters_by (Err stop.NoStep) calls.nil_interface h k = absurd k
    enters_by (Err stop.NoStep) calls.unresolved h k = h
    enters_by (Err (stop.Panics q u)) (calls.ready func bases row vs) h k = absurd k
    enters_by (Err (stop.Panics q u)) calls.nil_function h k = λ g below s. h g below s ∙ nil_used q u g below s _ k.0 k.1 k.2
    enters_by (Err (stop.Panics q u)) calls.nil_interface h k = λ g below s. h g below s ∙ nil_used q u g below s _ k.0 k.1 k.2
    enters_by (Err (stop.Panics q u)) calls.unresolved h k = absurd k

    pub starts_by : (r : Result Entered Stop) (c : calls.Resolved) → Begins c → CallEnters p ts r m n c → Starts p ts r f f' m n step
    starts_by (Ok e) (calls.ready func bases row vs) h k = λ g below s. h g below s ∙ ap (λ o. started p g o (frame_of ts f') below (with_memory (memory_of ts m) s)) k
    starts_by (Ok e) calls.nil_function h k = absurd k
    starts_by (Ok e) calls.nil_interface h k = absurd k
    starts_by (Ok e) calls.unresolved h k = absurd k
    starts_by (Err stop.NoMemory) c h k = tt
    starts_by (Err stop.NoStep) (calls.ready func bases row vs) h k = λ g below s. h g below s ∙ ap (λ o. started p g o (frame_of ts f') below (with_memory (memory_of ts m) s)) k
    starts_by (Err stop.NoStep) calls.nil_function h k = absurd k
    starts_by (Err stop.NoStep) calls.nil_interface h k = absurd k
    starts_by (Err stop.NoStep) calls.unresolved h k = h
    starts_by (Err (stop.Panics q u)) (calls.ready func bases row vs) h k = absurd k
    starts_by (Err (stop.Panics q u)) calls.nil_function h k = λ g below s. h g below s ∙ nil_used q u g below s _ k.0 k.1 k.2
    starts_by (Err (stop.Panics q u)) calls.nil_interface h k = λ g below s. h g below s ∙ nil_used q u g below s _ k.0 k.1 k.2
    starts_by (Err (stop.Panics q u)) calls.unresolved h k = absurd k

  lacks : (x : Stop) (f : Frame) (m : Memory) (step : ℕ → List defined.Frame → defined.State → Option defined.State)
      → ((g : ℕ) (below : List defined.Frame) (s : defined.State) → NoStep x (step g below s)) → Halts p ts x f m step
  lacks stop.NoMemory f m step h = tt
  lacks stop.NoStep f m step h = h
  lacks (stop.Panics q u) f m step h = λ g below s. absurd (h g below s)

  -- what `?` hands on where operands are wanting
  pub enters_lacked : (r : Result Entered Stop) (x : Stop) (f f' : Frame) (m n : Memory) (step : FrameStep) → IsErrAnd r (λ y. y ≡ x)
      → ((g : ℕ) (below : List defined.Frame) (s : defined.State) → NoStep x (step g (frame_of ts f) below (with_memory (memory_of ts m) s))) → Enters p ts r f f' m n step
  enters_lacked (Ok a) x f f' m n step i h = absurd i
  enters_lacked (Err y) x f f' m n step i h =
      subst (λ (z : Stop). Halts p ts z f' n (λ g below s. step g (frame_of ts f) below (with_memory (memory_of ts m) s))) (sym i)
      (lacks x f' n (λ g below s. step g (frame_of ts f) below (with_memory (memory_of ts m) s)) h)

  pub starts_lacked : (r : Result Entered Stop) (x : Stop) (f f' : Frame) (m n : Memory) (step : FrameStep) → IsErrAnd r (λ y. y ≡ x)
      → ((g : ℕ) (below : List defined.Frame) (s : defined.State) → NoStep x (step g (frame_of ts f) below (with_memory (memory_of ts m) s))) → Starts p ts r f f' m n step
  starts_lacked (Ok a) x f f' m n step i h = absurd i
  starts_lacked (Err y) x f f' m n step i h =
      subst (λ (z : Stop). Halts p ts z f' n (λ g below s. step g (frame_of ts f) below (with_memory (memory_of ts m) s))) (sym i)
      (lacks x f' n (λ g below s. step g (frame_of ts f) below (with_memory (memory_of ts m) s)) h)

-- the same of what is called
pub missed_callee : (p : CoreProgram) (ts : List Ty) (r : Result Resolved Stop) (x : Stop) (f : Frame) (c : defined.Called) (goes_on : (List Value → defined.Frame → Option defined.State) → Option defined.State)
    → IsErrAnd r (λ y. y ≡ x) → ((k : List Value → defined.Frame → Option defined.State) → NoStep x (goes_on k)) → CalleeTaken p ts r f c goes_on
missed_callee p ts (Ok a) x f c goes_on i s = absurd i
missed_callee p ts (Err y) x f c goes_on i s = subst (λ (z : Stop). (k : List Value → defined.Frame → Option defined.State) → NoStep z (goes_on k)) (sym i) s
