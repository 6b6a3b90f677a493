-- A goroutine's turn: its running frame, what is passed over, and the state without that frame.
use Rattle.std.proofs.Common.{◌≡◌, ◌<◌, refl, sym, ap, ◌∙◌, ℕ, zero, suc, List, [], ◌∷◌, ◌++◌, map, length, get_or, drop, arith}
use Rattle.std.specs.Prelude.{Bool, true, false, Option, Some, None, unwrap_or, slice_get, slice_set}
use Rattle.std.proofs.lemmas.List.{length-map, map-set}
use Rattle.std.proofs.lemmas.List.Sums.{fold-append}
use Rattle.go_type.specs.Tree.{Ty}
use Rattle.go_core.specs.Communicate.{waiting_step}
use Rattle.go_core.specs.CoreTree.{CoreProgram}
use Rattle.go_core.specs.GoStep.{tasks_step, by_waiting, frames_step, goroutine_step}
use Rattle.go_core.specs.Goroutine.{Task, Frame, Waiting, able, at_channels, at_take, at_await, Goroutine, State, Move, drop_values, push_value, leave}
use Rattle.go_core.specs.Memory.{Value}
use Rattle.go_state.specs.Passed.{Left, passed}
use Rattle.go_state.specs.StepsPast.{StepsPast}
use Rattle.go_state.specs.StateSeen.{frame_of, goroutine_of, stacked, state_of, waiting_of}
use Rattle.go_state.specs.declared.state.frame.Frame as held_frame
use Rattle.go_state.specs.declared.state.state.Goroutine as held_goroutine
use Rattle.go_state.specs.declared.state.state.State as held
use Rattle.go_state.proofs.ListsLemmas.{get_here}
use Rattle.go_partners.specs.Moves.{frames_below, waiting_in, with_frames}
use Rattle.go_partners.proofs.PlacesLemmas.{get_written, set_twice}
use Rattle.go_play.proofs.OverLemmas.{below_written}
use Rattle.go_play.specs.Plays.{Plays}
use Rattle.go_play.specs.Turns.{IsAble, Steps}

module _ (p : CoreProgram) (choices : List ℕ) (move : Move) (g : ℕ) where
  -- a step takes its tasks for those of its frame
  any_tasks : (ts us : List Task) (f : Frame) (below : List Frame) (s : State)
      → tasks_step p choices move g ts (record f { tasks = us }) below s ≡ tasks_step p choices move g ts f below s
  any_tasks [] us f below s = refl
  any_tasks (drop_values n ∷ ts) us f below s = any_tasks ts us (record f { values = drop n f.values }) below s
  any_tasks (push_value x ∷ ts) us f below s = any_tasks ts us (record f { values = x ∷ f.values }) below s
  any_tasks (leave l ∷ ts) us f below s = any_tasks ts us f below s
  any_tasks (t ∷ ts) us f below s = refl

  -- after what is passed over
  pub passed_to : StepsPast → (f : Frame) (ts us : List Task) (vs : List Value) (below : List Frame) (s : State)
      → passed f.tasks f.values ≡ (let l : Left = record { tasks = ts; values = vs } in l)
      → tasks_step p choices move g f.tasks f below s ≡ tasks_step p choices move g ts (record f { tasks = us; values = vs }) below s
  passed_to law f ts us vs below s h =
      law p choices move g f.tasks f below s
      ∙ ap (λ (l : Left). tasks_step p choices move g l.tasks (record f { values = l.values }) below s) h
      ∙ sym (any_tasks ts us (record f { values = vs }) below s)

  -- one that is able, and one that waits
  pub by_able : (w : Waiting) (f : Frame) (below : List Frame) (s : State) → w ≡ able → by_waiting p choices move g w f below s ≡ tasks_step p choices move g f.tasks f below s
  by_able w f below s h = ap (λ (v : Waiting). by_waiting p choices move g v f below s) h

  pub by_wait : (w : Waiting) (f : Frame) (below : List Frame) (s : State) → (w ≡ able → ⊥) → by_waiting p choices move g w f below s ≡ waiting_step p g move w f below s
  by_wait able f below s h = absurd (h refl)
  by_wait (at_channels os) f below s h = refl
  by_wait (at_take base) f below s h = refl
  by_wait (at_await base) f below s h = refl

set_same : {A : Type 0} (xs : List A) (i : ℕ) (x : A) → slice_get xs i ≡ Some x → slice_set xs i x ≡ xs
set_same {A} [] i x h = refl
set_same {A} (y ∷ ys) zero x h = ap (λ (o : Option A). unwrap_or o y ∷ ys) (sym h)
set_same {A} (y ∷ ys) (suc i) x h = ap (λ (zs : List A). y ∷ zs) (set_same ys i x h)

stacked_push : {A B : Type 0} (f : A → B) (xs : List A) (x : A) → stacked f (xs ++ x ∷ []) ≡ f x ∷ stacked f xs
stacked_push {A} {B} f xs x = fold-append (λ (rest : List B) (y : A). f y ∷ rest) [] xs (x ∷ [])

-- ---- the state without the running frame

module _ (ts : List Ty) (g : ℕ) (s m : held.State) (x y : held_goroutine.Goroutine) (f : held_frame.Frame) (l : g < length s.goroutines.items) (e : x ≡ get_or s.goroutines.items g x)
    (w : waiting_of ts y.waiting ≡ waiting_of ts x.waiting) (i : x.frames.items ≡ y.frames.items ++ f ∷ [])
    (n : state_of ts m ≡ (let t : State = record (state_of ts s) { goroutines = map (goroutine_of ts) (slice_set s.goroutines.items g y) } in t)) where
  there : slice_get (state_of ts s).goroutines g ≡ Some (goroutine_of ts x)
  there = get_here (goroutine_of ts) s.goroutines.items g x l e

  frames_were : stacked (frame_of ts) x.frames.items ≡ frame_of ts f ∷ stacked (frame_of ts) y.frames.items
  frames_were = ap (stacked (frame_of ts)) i ∙ stacked_push (frame_of ts) y.frames.items f

  written : (let t : State = record (state_of ts s) { goroutines = map (goroutine_of ts) (slice_set s.goroutines.items g y) } in t)
      ≡ (let t : State = record (state_of ts s) { goroutines = slice_set (state_of ts s).goroutines g (goroutine_of ts y) } in t)
  written = ap (λ (gs : List Goroutine). let t : State = record (state_of ts s) { goroutines = gs } in t) (map-set (goroutine_of ts) s.goroutines.items g y)

  within : g < length (state_of ts s).goroutines
  within = omega (arith, l, length-map s.goroutines.items (goroutine_of ts))

  pub waits_still : waiting_in (slice_get (state_of ts m).goroutines g) ≡ waiting_of ts x.waiting
  waits_still =
      ap (λ (t : State). waiting_in (slice_get t.goroutines g)) (n ∙ written)
      ∙ ap waiting_in (get_written (state_of ts s).goroutines g (goroutine_of ts y) within)
      ∙ w

  below_there : frames_below g (state_of ts m) ≡ stacked (frame_of ts) y.frames.items
  below_there = ap (λ (t : State). frames_below g t) n ∙ below_written ts s.goroutines.items g y l

  -- with that frame again it is the state that it was
  whole_again : with_frames g (frame_of ts f ∷ stacked (frame_of ts) y.frames.items) (state_of ts m) ≡ state_of ts s
  whole_again =
      let fs = frame_of ts f ∷ stacked (frame_of ts) y.frames.items in
      let gs = (state_of ts s).goroutines in
      let with_all : List Goroutine → State = λ hs. record (state_of ts s) { goroutines = hs } in
      let with_one : Waiting → Goroutine = λ v. record { frames = fs; waiting = v } in
      ap (λ (t : State). with_frames g fs t) (n ∙ written)
      ∙ ap (λ (o : Option Goroutine). with_all (slice_set (slice_set gs g (goroutine_of ts y)) g (with_one (waiting_in o)))) (get_written gs g (goroutine_of ts y) within)
      ∙ ap with_all
      (set_twice gs g (goroutine_of ts y) (with_one (waiting_of ts y.waiting))
      ∙ ap (λ (v : Waiting). slice_set gs g (with_one v)) w
      ∙ ap (λ (hs : List Frame). slice_set gs g (record { frames = hs; waiting = waiting_of ts x.waiting })) (sym frames_were)
      ∙ set_same gs g (goroutine_of ts x) there)

  module _ (p : CoreProgram) (choices : List ℕ) (move : Move) where
    turn_is : (o : Option State)
        → by_waiting p choices move g (waiting_in (slice_get (state_of ts m).goroutines g)) (frame_of ts f) (frames_below g (state_of ts m)) (with_frames g (frame_of ts f ∷ stacked (frame_of ts) y.frames.items) (state_of ts m)) ≡ o
        → goroutine_step p choices move g (slice_get (state_of ts s).goroutines g) (state_of ts s) ≡ o
    turn_is o h =
        let s0 = state_of ts s in
        let b = stacked (frame_of ts) y.frames.items in
        let f0 = frame_of ts f in
        ap (λ (q : Option Goroutine). goroutine_step p choices move g q s0) there
        ∙ ap (λ (fs : List Frame). frames_step p choices move g (waiting_of ts x.waiting) fs s0) frames_were
        ∙ sym
        (ap (λ (v : Waiting). by_waiting p choices move g v f0 (frames_below g (state_of ts m)) (with_frames g (f0 ∷ b) (state_of ts m))) waits_still
        ∙ ap (λ (fs : List Frame). by_waiting p choices move g (waiting_of ts x.waiting) f0 fs (with_frames g (f0 ∷ b) (state_of ts m))) below_there
        ∙ ap (λ (t : State). by_waiting p choices move g (waiting_of ts x.waiting) f0 b t) whole_again)
        ∙ h

    pub turn_steps : (r : Bool) (s' : held.State)
        → Plays ts g r f m s' (by_waiting p choices move g (waiting_in (slice_get (state_of ts m).goroutines g)))
        → Steps ts r s' (goroutine_step p choices move g (slice_get (state_of ts s).goroutines g) (state_of ts s))
    turn_steps true s' h = turn_is (Some (state_of ts s')) (h (frame_of ts f ∷ stacked (frame_of ts) y.frames.items))
    turn_steps false s' h = turn_is None (h (frame_of ts f ∷ stacked (frame_of ts) y.frames.items))

-- a goroutine without frames has no step
pub none_steps : (ts : List Ty) (p : CoreProgram) (choices : List ℕ) (move : Move) (g : ℕ) (s : held.State) (x : held_goroutine.Goroutine)
    → g < length s.goroutines.items → x ≡ get_or s.goroutines.items g x → x.frames.items ≡ []
    → goroutine_step p choices move g (slice_get (state_of ts s).goroutines g) (state_of ts s) ≡ None
none_steps ts p choices move g s x l e h =
    ap (λ (q : Option Goroutine). goroutine_step p choices move g q (state_of ts s)) (get_here (goroutine_of ts) s.goroutines.items g x l e)
    ∙ ap (λ (fs : List held_frame.Frame). frames_step p choices move g (waiting_of ts x.waiting) (stacked (frame_of ts) fs) (state_of ts s)) h
