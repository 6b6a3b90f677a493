-- Gates that are taken, waited for and added to, by the number that they hold.
use Rattle.std.proofs.Common.{◌≡◌, refl, sym, ap, ◌∙◌, subst, ℕ, zero, suc, List, [], ◌∷◌, arith}
use Rattle.std.specs.Prelude.{◌+◌, ℤ, pos, negsuc, ◌+ℤ◌, true, false, Option, Some, None, option_and_then, Result, Ok, Err, slice_get, slice_set}
use Rattle.gj_base.specs.declared.kind.Kind.TheVariants.{I32}
use Rattle.go_type.specs.Tree.{Ty}
use Rattle.go_core.specs.Arithmetic.{wrapped}
use Rattle.go_core.specs.CoreTree.{CoreProgram}
use Rattle.go_core.specs.Communicate.{waits, gate_taken, gate_awaited, gate_added, gate_again, gate_adds, is_zero, gate_number, number_in, set_gate, with_gate, woken}
use Rattle.go_core.specs.Frames.{with_more}
use Rattle.go_core.specs.Goroutine.{Frame, State, Move, Waiting, at_take, at_await, Goroutine, moved, with_memory}
use Rattle.go_core.specs.Memory.{whole, pointer, Value, Memory, with_written}
use Rattle.go_values.specs.declared.operators.did.Stop.{Stop}
use Rattle.go_state.specs.StateSeen.{frame_of}
use Rattle.go_state.specs.declared.state.frame.Frame as held_frame
use Rattle.go_partners.specs.Moves.{waiting_in, with_frames}
use Rattle.go_partners.proofs.PlacesLemmas.{set_twice}
use Rattle.go_partners.proofs.FramesLemmas.{waiting_at_gate_same}
use Rattle.go_partners.proofs.TakeLemmas.{memory_moves, frame_moves}
use Rattle.go_state.specs.FrameStepsFound.{NoStep, Taken}
use Rattle.go_partners.specs.Talks.{settled}
use Rattle.go_partners.specs.Gates.{IsGate}

-- the place of a gate that was taken
pub gate_found : (ts : List Ty) (p : CoreProgram) (g : ℕ) (move : Move) (r : Result ℕ Stop) (v : Value) (f : held_frame.Frame) (goes_on : (ℕ → Frame → Option State) → Option State)
    → ((k : ℕ → Frame → Option State) → goes_on k ≡ with_gate p g move k v (frame_of ts f)) → IsGate r (frame_of ts f) (λ k. with_gate p g move k v (frame_of ts f))
    → Taken ts (λ n. n) r f goes_on
gate_found ts p g move (Ok base) v f goes_on h i = λ k. h k ∙ i k
gate_found ts p g move (Err e) v f goes_on h i = λ k. subst (λ (o : Option State). NoStep e o) (sym (h k)) (i k)

module _ (p : CoreProgram) (g : ℕ) (move : Move) (base : ℕ) (fs below : List Frame) (f : Frame) (s : State) where
  -- only 0 is open
  zero_is : (n : ℤ) → is_zero (whole n ∷ []) ≡ true → n ≡ pos 0
  zero_is (pos zero) h = refl
  zero_is (pos (suc n)) h = cc
  zero_is (negsuc n) h = cc

  none_more : s.units + 1 + 0 ≡ s.units + 1
  none_more = omega arith

  waits_there : (w : Waiting) → waits p g move w 0 f below (with_frames g fs s) ≡ Some (settled g (f ∷ below) w 1 s)
  waits_there w =
      let x : Goroutine = record { frames = f ∷ below; waiting = w } in
      ap (λ (xs : List Goroutine). Some (record s { goroutines = xs; units = s.units + 1 + 0 })) (set_twice s.goroutines g (record { frames = fs; waiting = waiting_in (slice_get s.goroutines g) }) x)
      ∙ ap (λ (k : ℕ). Some (record s { goroutines = slice_set s.goroutines g x; units = k })) none_more

  pub taken_waits : (n : ℤ) → is_zero (whole n ∷ []) ≡ false → gate_taken p g move (Some n) base f below (with_frames g fs s) ≡ Some (settled g (f ∷ below) (at_take base) 1 s)
  taken_waits (pos zero) h = cc
  taken_waits (pos (suc n)) h = waits_there (at_take base)
  taken_waits (negsuc n) h = waits_there (at_take base)

  pub taken_sets : (n : ℤ) (m : Memory) → is_zero (whole n ∷ []) ≡ true → m ≡ with_written s.memory base (whole (pos 1) ∷ [])
      → gate_taken p g move (Some n) base f below (with_frames g fs s) ≡ Some (moved g (f ∷ below) 1 (with_memory m s))
  taken_sets n m h e =
      ap (λ (k : ℤ). gate_taken p g move (Some k) base f below (with_frames g fs s)) (zero_is n h)
      ∙ memory_moves g fs below s f f 1 1 (with_written s.memory base (whole (pos 1) ∷ [])) m refl refl e

  pub awaited_waits : (n : ℤ) → is_zero (whole n ∷ []) ≡ false → gate_awaited p g move (Some n) base f below (with_frames g fs s) ≡ Some (settled g (f ∷ below) (at_await base) 1 s)
  awaited_waits (pos zero) h = cc
  awaited_waits (pos (suc n)) h = waits_there (at_await base)
  awaited_waits (negsuc n) h = waits_there (at_await base)

  pub awaited_goes : (n : ℤ) → is_zero (whole n ∷ []) ≡ true → gate_awaited p g move (Some n) base f below (with_frames g fs s) ≡ Some (moved g (f ∷ below) 1 s)
  awaited_goes n h = ap (λ (k : ℤ). gate_awaited p g move (Some k) base f below (with_frames g fs s)) (zero_is n h) ∙ frame_moves g fs below s f f 1 1 refl refl

  -- ---- a goroutine that waits

  pub again_not : (n : ℤ) (next : Option ℤ) → is_zero (whole n ∷ []) ≡ false → gate_again p g move (Some n) next base f below (with_frames g fs s) ≡ None
  again_not (pos zero) next h = cc
  again_not (pos (suc n)) next h = refl
  again_not (negsuc n) next h = refl

  pub again_sets : (n : ℤ) (m : Memory) → is_zero (whole n ∷ []) ≡ true → m ≡ with_written s.memory base (whole (pos 1) ∷ [])
      → gate_again p g move (Some n) (Some (pos 1)) base f below (with_frames g fs s) ≡ Some (moved g (f ∷ below) 1 (with_memory m s))
  again_sets n m h e =
      ap (λ (k : ℤ). gate_again p g move (Some k) (Some (pos 1)) base f below (with_frames g fs s)) (zero_is n h)
      ∙ memory_moves g fs below s f f 1 1 (with_written s.memory base (whole (pos 1) ∷ [])) m refl refl e

  pub again_goes : (n : ℤ) → is_zero (whole n ∷ []) ≡ true → gate_again p g move (Some n) None base f below (with_frames g fs s) ≡ Some (moved g (f ∷ below) 1 s)
  again_goes n h = ap (λ (k : ℤ). gate_again p g move (Some k) None base f below (with_frames g fs s)) (zero_is n h) ∙ frame_moves g fs below s f f 1 1 refl refl

  -- ---- an add

  woken_same : (n : ℤ) → woken p g move n base (with_frames g fs s) ≡ woken p g move n base s
  woken_same (pos zero) = waiting_at_gate_same fs p g move base g s.goroutines
  woken_same (pos (suc n)) = refl
  woken_same (negsuc n) = refl

  pub added_there : (n k total : ℤ) (f' : Frame) (u : ℕ) (m : Memory) → total ≡ wrapped I32 (n +ℤ k) → f' ≡ with_more ((whole total ∷ []) ∷ []) f → u ≡ 1 + woken p g move total base s
      → m ≡ with_written s.memory base (whole total ∷ [])
      → gate_added p g move (Some n) k base f below (with_frames g fs s) ≡ Some (moved g (f' ∷ below) u (with_memory m s))
  added_there n k total f' u m e d c b =
      let given : ℤ → Frame = λ t. with_more ((whole t ∷ []) ∷ []) f in
      let all = with_frames g fs s in
      ap (λ (t : ℤ). Some (set_gate p g move base t (moved g (given t ∷ below) (1 + woken p g move t base all) all))) (sym e)
      ∙ ap (λ (w : ℕ). Some (set_gate p g move base total (moved g (given total ∷ below) (1 + w) all))) (woken_same total)
      ∙ memory_moves g fs below s (given total) f' (1 + woken p g move total base s) u (with_written s.memory base (whole total ∷ [])) m d c b

-- the gate and the number that an add takes
pub adds_through : (p : CoreProgram) (g : ℕ) (move : Move) (below : List Frame) (s : State) (v w : Value) (f : Frame)
    → gate_adds p g move below s v w f
    ≡ with_gate p g move (λ base f'. option_and_then (λ k. gate_added p g move (gate_number p g move base s) k base f' below s) (number_in p g move w)) v f
adds_through p g move below s (pointer base ∷ []) (whole k ∷ []) f = refl
adds_through p g move below s (pointer base ∷ []) w f = refl
adds_through p g move below s v w f = refl
