-- Steps that are made, by what they have answered and by the state that was put together then.
use Rattle.std.proofs.Common.{◌≡◌, refl, sym, ap, ◌∙◌, subst, ℕ, zero, suc, List, [], ◌∷◌, map}
use Rattle.std.specs.Prelude.{◌+◌, Bool, true, false, Option, Some, None, option_map, Result, Ok, Err, slice_get}
use Rattle.std.specs.Global.{Vec}
use Rattle.go_type.specs.Tree.{Ty}
use Rattle.go_core.specs.Communicate.{frames_of}
use Rattle.go_core.specs.CoreTree.{CoreProgram}
use Rattle.go_core.specs.Frames.{panic_step, to_panicking}
use Rattle.go_core.specs.Goroutine.{Frame, Goroutine, State, able, moved, with_memory}
use Rattle.go_core.specs.Panics.{recover_step}
use Rattle.go_core.specs.RunPanic.{panic_value}
use Rattle.go_values.specs.ValuesSeen.{memory_of, panic_of}
use Rattle.go_values.specs.declared.values.memory.Memory as held_memory
use Rattle.go_values.specs.declared.operators.did.Stop.{Stop}
use Rattle.go_values.specs.declared.operators.did.Stop.TheVariants as stop
use Rattle.go_state.specs.StateSeen.{end_of, frame_of, goroutine_of, state_of, waiting_of}
use Rattle.go_state.specs.declared.state.frame.Frame as held_frame
use Rattle.go_state.specs.declared.state.state.End as held_end
use Rattle.go_state.specs.declared.state.state.Goroutine as held_goroutine
use Rattle.go_state.specs.declared.state.state.State as held
use Rattle.go_entries.specs.declared.entries.enter.Entered as entering
use Rattle.go_partners.specs.Moves.{TalkStep, Halts, frames_below, with_frames}
use Rattle.go_partners.proofs.StopLemmas.{panic_over}
use Rattle.go_partners.proofs.WakeLemmas.{moved_over}
use Rattle.go_state.specs.FrameStepsFound.{NoStep}
use Rattle.go_state.specs.Goes as going
use Rattle.go_state.specs.Goes.{FrameStep, Goes}
use Rattle.go_entries.specs.Enters.{Enters, Starts}
use Rattle.go_partners.specs.Tells.{Prints, Tells, with_printed}
use Rattle.go_partners.specs.Talks.{Talks, settled}
use Rattle.go_partners.specs.declared.selects.reach.Talked.{Talked}
use Rattle.go_play.specs.Outcomes.{Halted, WentOn, HasEntered, HasBegun, HasTalked, HasTold, with_started, with_end}
use Rattle.go_play.specs.Plays.{Plays}
use Rattle.go_play.specs.Recovers.{Recovers}

get_mapped : {A B : Type 0} (f : A → B) (xs : List A) (i : ℕ) → slice_get (map f xs) i ≡ option_map f (slice_get xs i)
get_mapped f [] i = refl
get_mapped f (x ∷ xs) zero = refl
get_mapped f (x ∷ xs) (suc i) = get_mapped f xs i

-- what stood in the goroutine's place stands there still
pub same_below : (ts : List Ty) (xs ys : List held_goroutine.Goroutine) (g : ℕ) → slice_get ys g ≡ slice_get xs g
    → frames_of (slice_get (map (goroutine_of ts) ys) g) ≡ frames_of (slice_get (map (goroutine_of ts) xs) g)
same_below ts xs ys g e =
    ap frames_of (get_mapped (goroutine_of ts) ys g ∙ ap (λ (o : Option held_goroutine.Goroutine). option_map (goroutine_of ts) o) e ∙ sym (get_mapped (goroutine_of ts) xs g))

pub all_below : (ts : List Ty) (xs ys : Vec held_goroutine.Goroutine) (g : ℕ) → ys ≡ xs
    → frames_of (slice_get (map (goroutine_of ts) ys.items) g) ≡ frames_of (slice_get (map (goroutine_of ts) xs.items) g)
all_below ts xs ys g e = ap (λ (zs : Vec held_goroutine.Goroutine). frames_of (slice_get (map (goroutine_of ts) zs.items) g)) e

module _ (p : CoreProgram) (ts : List Ty) (g : ℕ) where
  -- ---- a step that doesn't go on

  pub plays_halted : (e : Stop) (b : Bool) (f f' : held_frame.Frame) (s m s' : held.State) (step : TalkStep)
      → Halts p ts e g f f' s m step → frames_below g (state_of ts m) ≡ frames_below g (state_of ts s) → Halted p.hidden ts g e b f' m s' → Plays ts g b f s s' step
  plays_halted stop.NoMemory true f f' s m s' step h e k = absurd k
  plays_halted stop.NoMemory false f f' s m s' step h e k = absurd k
  plays_halted stop.NoStep true f f' s m s' step h e k = absurd k
  plays_halted stop.NoStep false f f' s m s' step h e k = h
  plays_halted (stop.Panics q u) true f f' s m s' step h e k = λ fs.
      h fs
      ∙ ap (λ (below : List Frame). Some (moved g (to_panicking (panic_value p.hidden (panic_of q)) (frame_of ts f') ∷ below) (1 + u) (state_of ts m))) (sym e)
      ∙ ap (λ (t : State). Some t) (sym k)
  plays_halted (stop.Panics q u) false f f' s m s' step h e k = absurd k

  -- in any state with that memory
  frame_halts : (e : Stop) (f f' : held_frame.Frame) (s : held.State) (m : held_memory.Memory) (step : FrameStep)
      → going.Halts p ts e f' m (λ h below t. step h (frame_of ts f) below (with_memory (memory_of ts s.memory) t)) → Halts p ts e g f f' s (record s { memory = m }) (step g)
  frame_halts stop.NoMemory f f' s m step h = tt
  frame_halts stop.NoStep f f' s m step h = λ fs. h g (frames_below g (state_of ts s)) (with_frames g fs (state_of ts s))
  frame_halts (stop.Panics q u) f f' s m step h = λ fs.
      h g (frames_below g (state_of ts s)) (with_frames g fs (state_of ts s))
      ∙ panic_over p g (panic_of q) u (frame_of ts f') fs (frames_below g (state_of ts s)) (with_memory (memory_of ts m) (state_of ts s))

  -- in any state
  none_halts : (e : Stop) (f f' : held_frame.Frame) (s m : held.State) (step : TalkStep)
      → ((fs : List Frame) → NoStep e (step (frame_of ts f) (frames_below g (state_of ts s)) (with_frames g fs (state_of ts s)))) → Halts p ts e g f f' s m step
  none_halts stop.NoMemory f f' s m step h = tt
  none_halts stop.NoStep f f' s m step h = h
  none_halts (stop.Panics q u) f f' s m step h = λ fs. absurd (h fs)

  -- ---- a step on the memory

  pub plays_went : (r : Result ℕ Stop) (b : Bool) (f f' : held_frame.Frame) (s s' : held.State) (m : held_memory.Memory) (step : FrameStep)
      → Goes p ts r f f' s.memory m step → WentOn p.hidden ts g r b f' (record s { memory = m }) s' → Plays ts g b f s s' (step g)
  plays_went (Ok u) true f f' s s' m step h k = λ fs.
      h g (frames_below g (state_of ts s)) (with_frames g fs (state_of ts s))
      ∙ ap (λ (t : State). Some t) (moved_over g fs (frame_of ts f' ∷ frames_below g (state_of ts s)) (1 + u) (with_memory (memory_of ts m) (state_of ts s)) ∙ sym k)
  plays_went (Ok u) false f f' s s' m step h k = absurd k
  plays_went (Err e) b f f' s s' m step h k = plays_halted e b f f' s (record s { memory = m }) s' (step g) (frame_halts e f f' s m step h) refl k

  -- ---- new frames

  pub plays_entered : (r : Result entering.Entered Stop) (b : Bool) (f f' : held_frame.Frame) (s s' : held.State) (m : held_memory.Memory) (step : FrameStep)
      → Enters p ts r f f' s.memory m step → HasEntered p.hidden ts g r b f' (record s { memory = m }) s' → Plays ts g b f s s' (step g)
  plays_entered (Ok e) true f f' s s' m step h k = λ fs.
      h g (frames_below g (state_of ts s)) (with_frames g fs (state_of ts s))
      ∙ ap (λ (t : State). Some t) (moved_over g fs (frame_of ts e.frame ∷ frame_of ts f' ∷ frames_below g (state_of ts s)) (1 + e.units) (with_memory (memory_of ts m) (state_of ts s)) ∙ sym k)
  plays_entered (Ok e) false f f' s s' m step h k = absurd k
  plays_entered (Err e) b f f' s s' m step h k = plays_halted e b f f' s (record s { memory = m }) s' (step g) (frame_halts e f f' s m step h) refl k

  pub plays_begun : (r : Result entering.Entered Stop) (b : Bool) (f f' : held_frame.Frame) (s s' : held.State) (m : held_memory.Memory) (step : FrameStep)
      → Starts p ts r f f' s.memory m step → HasBegun p.hidden ts g r b f' (record s { memory = m }) s' → Plays ts g b f s s' (step g)
  plays_begun (Ok e) true f f' s s' m step h k = λ fs.
      h g (frames_below g (state_of ts s)) (with_frames g fs (state_of ts s))
      ∙ ap (λ (t : State). Some (with_started (frame_of ts e.frame) t)) (moved_over g fs (frame_of ts f' ∷ frames_below g (state_of ts s)) (1 + e.units) (with_memory (memory_of ts m) (state_of ts s)))
      ∙ ap (λ (t : State). Some t) (sym k)
  plays_begun (Ok e) false f f' s s' m step h k = absurd k
  plays_begun (Err e) b f f' s s' m step h k = plays_halted e b f f' s (record s { memory = m }) s' (step g) (frame_halts e f f' s m step h) refl k

  -- ---- communication

  pub plays_talked : (r : Result Talked Stop) (b : Bool) (f f' : held_frame.Frame) (s m s' : held.State) (step : TalkStep)
      → Talks p ts g r f f' s m step → frames_below g (state_of ts m) ≡ frames_below g (state_of ts s) → HasTalked p.hidden ts g r b f' m s' → Plays ts g b f s s' step
  plays_talked (Ok t) true f f' s m s' step h e k = λ fs.
      h fs
      ∙ ap (λ (below : List Frame). Some (settled g (frame_of ts f' ∷ below) (waiting_of ts t.waiting) t.units (state_of ts m))) (sym e)
      ∙ ap (λ (x : State). Some x) (sym k)
  plays_talked (Ok t) false f f' s m s' step h e k = absurd k
  plays_talked (Err x) b f f' s m s' step h e k = plays_halted x b f f' s m s' step h e k

  -- ---- output and ends

  pub plays_printed : (r : Result ℕ Stop) (b : Bool) (f f' : held_frame.Frame) (s s' : held.State) (v : Vec ℕ) (step : FrameStep)
      → Prints ts r f f' s.printed.items v.items step → WentOn p.hidden ts g r b f' (record s { printed = v }) s' → Plays ts g b f s s' (step g)
  plays_printed (Ok u) true f f' s s' v step h k = λ fs.
      h g (frames_below g (state_of ts s)) (with_frames g fs (state_of ts s))
      ∙ ap (λ (t : State). Some t) (moved_over g fs (frame_of ts f' ∷ frames_below g (state_of ts s)) (1 + u) (with_printed v.items (state_of ts s)) ∙ sym k)
  plays_printed (Ok u) false f f' s s' v step h k = absurd k
  plays_printed (Err e) b f f' s s' v step h k =
      plays_halted e b f f' s (record s { printed = v }) s' (step g) (none_halts e f f' s (record s { printed = v }) (step g) (λ fs. h g (frames_below g (state_of ts s)) (with_frames g fs (state_of ts s)))) refl k

  pub plays_told : (r : Result held_end.End Stop) (b : Bool) (f f' : held_frame.Frame) (s s' : held.State) (step : FrameStep)
      → Tells ts r f' (λ h. step h (frame_of ts f)) → HasTold p.hidden ts g r b f' s s' → Plays ts g b f s s' (step g)
  plays_told (Ok e) true f f' s s' step h k = λ fs.
      h g (frames_below g (state_of ts s)) (with_frames g fs (state_of ts s))
      ∙ ap (λ (t : State). Some (with_end (end_of e) t)) (moved_over g fs (frame_of ts f' ∷ frames_below g (state_of ts s)) 1 (state_of ts s))
      ∙ ap (λ (t : State). Some t) (sym k)
  plays_told (Ok e) false f f' s s' step h k = absurd k
  plays_told (Err e) b f f' s s' step h k =
      plays_halted e b f f' s s s' (step g) (none_halts e f f' s s (step g) (λ fs. h g (frames_below g (state_of ts s)) (with_frames g fs (state_of ts s)))) refl k

  -- ---- `recover`

  pub plays_recovered : (r : Result ℕ Stop) (b : Bool) (f f' : held_frame.Frame) (s m s' : held.State)
      → Recovers p ts g r f f' s m → WentOn p.hidden ts g r b f' m s' → Plays ts g b f s s' (λ x below t. recover_step p g x below t)
  plays_recovered (Ok u) true f f' s m s' h k = λ fs.
      h.0 (with_frames g fs (state_of ts s))
      ∙ ap (λ (t : State). Some t)
      (moved_over g fs (frame_of ts f' ∷ frames_below g (state_of ts m)) (1 + u) (state_of ts s)
      ∙ sym (h.1 (frame_of ts f' ∷ frames_below g (state_of ts m)) (1 + u))
      ∙ sym k)
  plays_recovered (Ok u) false f f' s m s' h k = absurd k
  plays_recovered (Err stop.NoMemory) true f f' s m s' h k = absurd k
  plays_recovered (Err stop.NoMemory) false f f' s m s' h k = absurd k
  plays_recovered (Err stop.NoStep) true f f' s m s' h k = absurd k
  plays_recovered (Err stop.NoStep) false f f' s m s' h k = λ fs. h (with_frames g fs (state_of ts s))
  plays_recovered (Err (stop.Panics q u)) b f f' s m s' h k = absurd h

  -- ---- a step that is another one

  pub plays_as : (b : Bool) (f h : held_frame.Frame) (s s' : held.State) (step other : TalkStep)
      → ((t : State) → step (frame_of ts f) (frames_below g (state_of ts s)) t ≡ other (frame_of ts h) (frames_below g (state_of ts s)) t)
      → Plays ts g b h s s' other → Plays ts g b f s s' step
  plays_as true f h s s' step other e k = λ fs. e (with_frames g fs (state_of ts s)) ∙ k fs
  plays_as false f h s s' step other e k = λ fs. e (with_frames g fs (state_of ts s)) ∙ k fs
