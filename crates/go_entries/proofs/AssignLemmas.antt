-- The second phase of an assignment.
use Rattle.std.proofs.Common.{◌≡◌, refl, ap, sym, ◌∙◌, arith, length, ℕ, ◌+◌, ◌<◌, ◌≤◌, List, [], ◌∷◌, map}
use Rattle.std.proofs.lemmas.List.{length-drop, length-map}
use Rattle.std.specs.Prelude.{Option, Some, None, Result, IsErrAnd}
use Rattle.go_type.specs.Tree.{Ty}
use Rattle.go_core.specs.Assign as assigning
use Rattle.go_core.specs.CoreTree as tree
use Rattle.go_core.specs.CoreTree.{CoreProgram}
use Rattle.go_core.specs.CoreView.{target_view}
use Rattle.go_core.specs.Did.{Did}
use Rattle.go_core.specs.Frames.{panic_step}
use Rattle.go_core.specs.Layout.{shape_of, weight}
use Rattle.go_core.specs.Goroutine as defined
use Rattle.go_core.specs.Goroutine.{moved, with_memory}
use Rattle.go_core.specs.Memory as core
use Rattle.go_core.specs.Memory.{Value, with_written}
use Rattle.go_core.specs.declared.statement.Targets.{Targets}
use Rattle.go_state.specs.TasksSeen.{targets_from}
use Rattle.go_state.proofs.ListsLemmas.{targets_end}
use Rattle.go_values.specs.ValuesSeen.{memory_of, panic_of}
use Rattle.go_values.specs.declared.values.memory.Memory.{Memory}
use Rattle.go_values.specs.OperatorsSeen as seen
use Rattle.go_values.specs.declared.operators.did.Gives.{Gives}
use Rattle.go_values.specs.declared.operators.did.Stop.{Stop}
use Rattle.go_values.specs.declared.operators.did.Stop.TheVariants as stop
use Rattle.go_state.specs.StateSeen.{frame_of}
use Rattle.go_state.specs.declared.state.frame.Frame.{Frame}
use Rattle.go_state.specs.Goes.{Goes, Halts, FrameStep}
use Rattle.go_state.proofs.GoesLemmas.{halted}
use Rattle.go_entries.specs.Found.{MissesBy}

-- ---- what remains

module _ (p : CoreProgram) (g : ℕ) (operands values : List Value) (f : defined.Frame) where
  first_of_some : (us : List tree.Target) → 0 < length us → assigning.rest_first p g us operands values f ≡ record f { tasks = defined.assign_rest us operands values ∷ f.tasks }
  first_of_some [] h = absurd (omega arith)
  first_of_some (u ∷ us) h = refl

  pub some_first : (ts : List Ty) (xs : Targets) (n : ℕ) → n < length xs.items.items
      → assigning.rest_first p g (targets_from ts xs n) operands values f ≡ record f { tasks = defined.assign_rest (targets_from ts xs n) operands values ∷ f.tasks }
  some_first ts xs n h =
      let k = length-map xs.items.items (target_view ts) in
      let d = length-drop n (map (target_view ts) xs.items.items) in
      first_of_some (targets_from ts xs n) (omega (arith, k, d))

  pub none_first : (ts : List Ty) (xs : Targets) (n : ℕ) → length xs.items.items ≤ n → assigning.rest_first p g (targets_from ts xs n) operands values f ≡ f
  none_first ts xs n h = ap (λ (us : List tree.Target). assigning.rest_first p g us operands values f) (targets_end ts xs xs.items.items n refl h)

-- ---- a left side without a value

no_value : (p : CoreProgram) (g : ℕ) (u : tree.Target) (us : List tree.Target) (operands : List Value) (f : defined.Frame) (below : List defined.Frame) (s : defined.State)
    → assigning.assign_step p g (u ∷ us) operands [] f below s ≡ None
no_value p g tree.blank us operands f below s = refl
no_value p g (tree.to_place t place) us operands f below s = refl
no_value p g (tree.to_entry t e key) us [] f below s = refl
no_value p g (tree.to_entry t e key) us (y ∷ []) f below s = refl
no_value p g (tree.to_entry t e key) us (y ∷ k ∷ others) f below s = refl

pub no_value_there : (p : CoreProgram) (g : ℕ) (ts : List Ty) (xs : Targets) (n : ℕ) (operands : List Value) (f : defined.Frame) (below : List defined.Frame) (s : defined.State)
    → n < length xs.items.items → assigning.assign_step p g (targets_from ts xs n) operands [] f below s ≡ None
no_value_there p g ts xs n operands f below s h =
    let k = length-map xs.items.items (target_view ts) in
    let d = length-drop n (map (target_view ts) xs.items.items) in
    some_targets (targets_from ts xs n) (omega (arith, k, d))
  where
    some_targets : (us : List tree.Target) → 0 < length us → assigning.assign_step p g us operands [] f below s ≡ None
    some_targets [] l = absurd (omega arith)
    some_targets (u ∷ us) l = no_value p g u us operands f below s

module _ (p : CoreProgram) (ts : List Ty) where
  -- ---- a place that takes a value

  -- there is no place
  place_halts : (x : Stop) (nodes n : ℕ) (d : assigning.Found) (t : Ty) (us : List tree.Target) (v : Value) (vs : List Value) (f : Frame) (m : Memory)
      (step : ℕ → List defined.Frame → defined.State → Option defined.State) → nodes ≡ n
      → ((g : ℕ) (below : List defined.Frame) (s : defined.State)
      → step g below s ≡ assigning.stored_at p g d t n us v vs (frame_of ts f) below (with_memory (memory_of ts m) s))
      → MissesBy nodes x d → Halts p ts x f m step
  place_halts stop.NoMemory nodes n d t us v vs f m step e h i = tt
  place_halts stop.NoStep nodes n d t us v vs f m step e h i = λ g below s.
      h g below s ∙ ap (λ (c : assigning.Found). assigning.stored_at p g c t n us v vs (frame_of ts f) below (with_memory (memory_of ts m) s)) i
  place_halts (stop.Panics q u) nodes n d t us v vs f m step e h i = λ g below s.
      h g below s
      ∙ ap (λ (c : assigning.Found). assigning.stored_at p g c t n us v vs (frame_of ts f) below (with_memory (memory_of ts m) s)) i.0
      ∙ ap (λ (k : ℕ). panic_step p.hidden g (panic_of q) k (frame_of ts f) below (with_memory (memory_of ts m) s)) (sym (i.1 ∙ e))

  pub place_missed : (r : Result ℕ Stop) (x : Stop) (nodes n : ℕ) (d : assigning.Found) (t : Ty) (us : List tree.Target) (v : Value) (vs : List Value) (f : Frame) (m : Memory)
      (step : FrameStep) → IsErrAnd r (λ y. y ≡ x) → nodes ≡ n
      → ((g : ℕ) (below : List defined.Frame) (s : defined.State)
      → step g (frame_of ts f) below (with_memory (memory_of ts m) s) ≡ assigning.stored_at p g d t n us v vs (frame_of ts f) below (with_memory (memory_of ts m) s))
      → MissesBy nodes x d → Goes p ts r f f m m step
  place_missed r x nodes n d t us v vs f m step i e h k =
      halted p ts r x f f m m step i (place_halts x nodes n d t us v vs f m (λ g below s. step g (frame_of ts f) below (with_memory (memory_of ts m) s)) e h k)

  pub place_stored : (g : ℕ) (below : List defined.Frame) (s : defined.State) (d : assigning.Found) (base : ℕ) (others : List Value) (t : Ty) (nodes n w units : ℕ)
      (us : List tree.Target) (v : Value) (vs : List Value) (f f' : Frame) (m m' : Memory)
      → d ≡ assigning.found base others → nodes ≡ n → w ≡ weight (shape_of p.names t) → units ≡ nodes + w
      → memory_of ts m' ≡ with_written (memory_of ts m) base v → frame_of ts f' ≡ assigning.rest_first p g us others vs (frame_of ts f)
      → assigning.stored_at p g d t n us v vs (frame_of ts f) below (with_memory (memory_of ts m) s)
      ≡ Some (with_memory (memory_of ts m') (moved g (frame_of ts f' ∷ below) (1 + units) s))
  place_stored g below s d base others t nodes n w units us v vs f f' m m' e en ew eu em ef =
      let k : 1 + n + weight (shape_of p.names t) ≡ 1 + units = omega (arith, en, ew, eu) in
      ap (λ (c : assigning.Found). assigning.stored_at p g c t n us v vs (frame_of ts f) below (with_memory (memory_of ts m) s)) e
      ∙ ap (λ (j : ℕ). Some (with_memory (with_written (memory_of ts m) base v) (moved g (assigning.rest_first p g us others vs (frame_of ts f) ∷ below) j s))) k
      ∙ ap (λ (c : core.Memory). Some (with_memory c (moved g (assigning.rest_first p g us others vs (frame_of ts f) ∷ below) (1 + units) s))) (sym em)
      ∙ ap (λ (c : defined.Frame). Some (with_memory (memory_of ts m') (moved g (c ∷ below) (1 + units) s))) (sym ef)

  -- ---- an entry that takes a value

  entry_halts : (x : Stop) (d : Did) (us : List tree.Target) (others vs : List Value) (f : Frame) (m : Memory) (step : ℕ → List defined.Frame → defined.State → Option defined.State)
      → ((g : ℕ) (below : List defined.Frame) (s : defined.State)
      → step g below s ≡ assigning.entry_stored p g d us others vs (frame_of ts f) below (with_memory (memory_of ts m) s))
      → seen.Stops x d → Halts p ts x f m step
  entry_halts stop.NoMemory d us others vs f m step h i = tt
  entry_halts stop.NoStep d us others vs f m step h i = λ g below s.
      h g below s ∙ ap (λ (c : Did). assigning.entry_stored p g c us others vs (frame_of ts f) below (with_memory (memory_of ts m) s)) i
  entry_halts (stop.Panics q u) d us others vs f m step h i = λ g below s.
      h g below s ∙ ap (λ (c : Did). assigning.entry_stored p g c us others vs (frame_of ts f) below (with_memory (memory_of ts m) s)) i

  pub entry_missed : (r : Result ℕ Stop) (x : Stop) (d : Did) (us : List tree.Target) (others vs : List Value) (f : Frame) (m : Memory) (step : FrameStep) → IsErrAnd r (λ y. y ≡ x)
      → ((g : ℕ) (below : List defined.Frame) (s : defined.State)
      → step g (frame_of ts f) below (with_memory (memory_of ts m) s) ≡ assigning.entry_stored p g d us others vs (frame_of ts f) below (with_memory (memory_of ts m) s))
      → seen.Stops x d → Goes p ts r f f m m step
  entry_missed r x d us others vs f m step i h k =
      halted p ts r x f f m m step i (entry_halts x d us others vs f m (λ g below s. step g (frame_of ts f) below (with_memory (memory_of ts m) s)) h k)

  pub entry_goes : (g : ℕ) (below : List defined.Frame) (s : defined.State) (d : Did) (x : Gives) (us : List tree.Target) (others vs : List Value) (f f' : Frame) (m m' : Memory)
      → d ≡ seen.given ts (memory_of ts m) x → memory_of ts m' ≡ seen.changed ts (memory_of ts m) x.change
      → frame_of ts f' ≡ assigning.rest_first p g us others vs (frame_of ts f)
      → assigning.entry_stored p g d us others vs (frame_of ts f) below (with_memory (memory_of ts m) s)
      ≡ Some (with_memory (memory_of ts m') (moved g (frame_of ts f' ∷ below) (1 + x.units) s))
  entry_goes g below s d x us others vs f f' m m' e em ef =
      ap (λ (c : Did). assigning.entry_stored p g c us others vs (frame_of ts f) below (with_memory (memory_of ts m) s)) e
      ∙ ap (λ (c : core.Memory). Some (with_memory c (moved g (assigning.rest_first p g us others vs (frame_of ts f) ∷ below) (1 + x.units) s))) (sym em)
      ∙ ap (λ (c : defined.Frame). Some (with_memory (memory_of ts m') (moved g (c ∷ below) (1 + x.units) s))) (sym ef)
