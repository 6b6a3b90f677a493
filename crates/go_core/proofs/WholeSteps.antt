-- Each move that can be made leaves a well formed state, and one can be made as long as the run has not ended.
use Rattle.std.proofs.Common.{◌⊎◌, inl, inr, refl, sym, subst, arith}
use Rattle.std.specs.Prelude.{◌≡◌, ℕ, suc, ◌+◌, List, [], ◌∷◌, Bool, true, false, if◌then◌else◌, Option, Some, None, slice_get, option_and_then}
use Rattle.go_core.specs.CoreTree.{CoreProgram}
use Rattle.go_core.specs.SoundProgram.{Sound}
use Rattle.go_core.specs.Goroutine as task
use Rattle.go_core.specs.Goroutine.{Task, Frame, Waiting, able, at_channels, at_take, at_await, Goroutine, State, End, going, exit, panicked, fatal, Move}
use Rattle.go_core.specs.Communicate.{waiting_ready, has_frames, can_move, any_moves}
use Rattle.go_core.specs.GoStep.{goroutine_step}
use Rattle.go_core.specs.Run.{while_going, deadlocked, step, after, start}
use Rattle.go_core.specs.WellFormed.{WellFormed}
use Rattle.go_core.specs.LocalSteps.{StartsLocal}
use Rattle.go_core.specs.CallSteps.{StartsCall}
use Rattle.go_core.specs.AssignSteps.{StartsStore, StartsRangeTurn}
use Rattle.go_core.specs.CommunicationSteps.{StartsCommunication, IsThere, KeepsIfThere, Goes, GoesWell}
use Rattle.go_core.specs.WholeSteps.{AbleGoWell, StepsKeep, ReachedWellFormed, GoingGoesOn}
use Rattle.go_core.proofs.StartTyped.{starts}
use Rattle.go_core.proofs.LocalFrames as local
use Rattle.go_core.proofs.CallSteps as calls
use Rattle.go_core.proofs.AssignSteps as assigns
use Rattle.go_core.proofs.CommunicationFrames.{or_either, and_both, one_step, move_by}
use Rattle.go_core.proofs.CommunicationSteps as talks

some_state : (a b : State) → Some a ≡ Some b → a ≡ b
some_state a b e = cc

-- ---- a frame's first step is of one of five kinds

data Starts (ts : List Task) : Type 0 where
  by_itself : StartsLocal ts → Starts ts
  by_call : StartsCall ts → Starts ts
  by_store : StartsStore ts → Starts ts
  by_turn : StartsRangeTurn ts → Starts ts
  by_talk : StartsCommunication ts → Starts ts

-- what is no step is passed over
passed : (t : Task) (ts : List Task) → (StartsLocal ts → StartsLocal (t ∷ ts)) → (StartsCall ts → StartsCall (t ∷ ts)) → (StartsStore ts → StartsStore (t ∷ ts)) → (StartsRangeTurn ts → StartsRangeTurn (t ∷ ts))
    → (StartsCommunication ts → StartsCommunication (t ∷ ts)) → Starts ts → Starts (t ∷ ts)
passed t ts a b c d e (by_itself h) = by_itself (a h)
passed t ts a b c d e (by_call h) = by_call (b h)
passed t ts a b c d e (by_store h) = by_store (c h)
passed t ts a b c d e (by_turn h) = by_turn (d h)
passed t ts a b c d e (by_talk h) = by_talk (e h)

kind : (ts : List Task) → Starts ts
kind [] = by_call tt
kind (task.drop_values n ∷ ts) = passed (task.drop_values n) ts (λ h. h) (λ h. h) (λ h. h) (λ h. h) (λ h. h) (kind ts)
kind (task.push_value x ∷ ts) = passed (task.push_value x) ts (λ h. h) (λ h. h) (λ h. h) (λ h. h) (λ h. h) (kind ts)
kind (task.leave label ∷ ts) = passed (task.leave label) ts (λ h. h) (λ h. h) (λ h. h) (λ h. h) (λ h. h) (kind ts)
kind (task.operate o n ∷ ts) = by_itself tt
kind (task.at_local v ∷ ts) = by_itself tt
kind (task.make_closure func ∷ ts) = by_itself tt
kind (task.only_where_true e ∷ ts) = by_itself tt
kind (task.only_where_false e ∷ ts) = by_itself tt
kind (task.bind_vars vs ∷ ts) = by_itself tt
kind (task.declare_var v ∷ ts) = by_itself tt
kind (task.assign xs n ∷ ts) = by_store tt
kind (task.assign_rest xs operands values ∷ ts) = by_store tt
kind (task.set_globals ns ∷ ts) = by_itself tt
kind (task.choose a b ∷ ts) = by_itself tt
kind (task.turn label c body post ∷ ts) = by_itself tt
kind (task.turn_again label c body post ∷ ts) = by_itself tt
kind (task.choose_clause n tests cs d ∷ ts) = by_itself tt
kind (task.choose_default cs d ∷ ts) = by_itself tt
kind (task.begin_range r ∷ ts) = by_store tt
kind (task.next_range r c ∷ ts) = by_turn tt
kind (task.branch_to way label ∷ ts) = by_itself tt
kind (task.call_with c n ∷ ts) = by_call tt
kind (task.go_with c n ∷ ts) = by_call tt
kind (task.defer_with c n ∷ ts) = by_call tt
kind (task.receive_through v ∷ ts) = by_store tt
kind (task.return_with n ∷ ts) = by_itself tt
kind (task.panic_with ∷ ts) = by_itself tt
kind (task.recover_here ∷ ts) = by_call tt
kind (task.send_to t ∷ ts) = by_talk tt
kind (task.receive_from t ok ∷ ts) = by_talk tt
kind (task.close_channel ∷ ts) = by_talk tt
kind (task.select_from label cases n has_default body ∷ ts) = by_talk tt
kind (task.take_gate ∷ ts) = by_talk tt
kind (task.add_to_gate ∷ ts) = by_talk tt
kind (task.await_gate ∷ ts) = by_talk tt
kind (task.yield_turn ∷ ts) = by_itself tt
kind (task.print_values n ends_line ∷ ts) = by_itself tt
kind (task.exit_with ∷ ts) = by_itself tt
kind (task.fatal_with ∷ ts) = by_itself tt
kind (task.finish ∷ ts) = by_call tt

pub able_go : AbleGoWell
able_go p choices g f below s sound wf e = by_kind (kind f.tasks)
  where
    by_kind : Starts f.tasks → GoesWell p g (λ move. goroutine_step p choices move g (slice_get s.goroutines g) s)
    by_kind (by_itself h) = one_step p g (λ move. goroutine_step p choices move g (slice_get s.goroutines g) s) (λ move. local.keep p choices move g f below s sound wf e h)
    by_kind (by_call h) = one_step p g (λ move. goroutine_step p choices move g (slice_get s.goroutines g) s) (λ move. calls.keep p choices move g f below s sound wf e h)
    by_kind (by_store h) = one_step p g (λ move. goroutine_step p choices move g (slice_get s.goroutines g) s) (λ move. assigns.stores p choices move g f below s sound wf e h)
    by_kind (by_turn h) = assigns.range_turns p choices g f below s sound wf e h
    by_kind (by_talk h) = talks.reached p choices g f below s sound wf e h

-- ---- a goroutine that is able or waits

module _ (p : CoreProgram) (sound : Sound p) (choices : List ℕ) (s : State) (wf : WellFormed p s) where
  abbrev its : Move → ℕ → Option State
  its move g = goroutine_step p choices move g (slice_get s.goroutines g) s

  by_wait : (move : Move) (g : ℕ) (f : Frame) (below : List Frame) (w : Waiting) → slice_get s.goroutines g ≡ Some (record { frames = f ∷ below; waiting = w }) → KeepsIfThere p (its move g)
  by_wait move g f below able e = (able_go p choices g f below s sound wf e).keeps move
  by_wait move g f below (at_channels os) e = talks.waiting p choices move g f below (at_channels os) s sound wf e (λ q. absurd (cc))
  by_wait move g f below (at_take base) e = talks.waiting p choices move g f below (at_take base) s sound wf e (λ q. absurd (cc))
  by_wait move g f below (at_await base) e = talks.waiting p choices move g f below (at_await base) s sound wf e (λ q. absurd (cc))

  by_frames : (move : Move) (g : ℕ) (fs : List Frame) (w : Waiting) → slice_get s.goroutines g ≡ Some (record { frames = fs; waiting = w }) → KeepsIfThere p (its move g)
  by_frames move g [] w e = subst (λ o. KeepsIfThere p (goroutine_step p choices move g o s)) (sym e) tt
  by_frames move g (f ∷ below) w e = by_wait move g f below w e

  by_goroutine : (move : Move) (g : ℕ) (o : Option Goroutine) → slice_get s.goroutines g ≡ o → KeepsIfThere p (its move g)
  by_goroutine move g None e = subst (λ o. KeepsIfThere p (goroutine_step p choices move g o s)) (sym e) tt
  by_goroutine move g (Some x) e = by_frames move g x.frames x.waiting e

  by_any : (move : Move) (b : Bool) → KeepsIfThere p (if b then its move move.goroutine else Some (deadlocked s))
  by_any move true = by_goroutine move move.goroutine (slice_get s.goroutines move.goroutine) refl
  by_any move false = record { world = wf.world; globals_lie = wf.globals_lie; memory_typed = wf.memory_typed; goroutines_typed = wf.goroutines_typed }

  by_end : (e : End) (o : Option State) → KeepsIfThere p o → KeepsIfThere p (while_going e o)
  by_end going o h = h
  by_end (exit n) o h = tt
  by_end (panicked text) o h = tt
  by_end (fatal text) o h = tt

  keeps_step : (move : Move) → KeepsIfThere p (step p choices move s)
  keeps_step move = by_end s.end (if any_moves 0 s.goroutines s then its move move.goroutine else Some (deadlocked s)) (by_any move (any_moves 0 s.goroutines s))

  -- ---- some goroutine that can move does

  goes_wait : (g : ℕ) (f : Frame) (below : List Frame) (w : Waiting) → slice_get s.goroutines g ≡ Some (record { frames = f ∷ below; waiting = w }) → waiting_ready g s w ≡ true → Goes g (λ move. its move g)
  goes_wait g f below able e r = (able_go p choices g f below s sound wf e).goes
  goes_wait g f below (at_channels os) e r = talks.ready p choices g f below (at_channels os) s sound wf e (λ q. absurd (cc)) r
  goes_wait g f below (at_take base) e r = talks.ready p choices g f below (at_take base) s sound wf e (λ q. absurd (cc)) r
  goes_wait g f below (at_await base) e r = talks.ready p choices g f below (at_await base) s sound wf e (λ q. absurd (cc)) r

  goes_frames : (g : ℕ) (fs : List Frame) (w : Waiting) → slice_get s.goroutines g ≡ Some (record { frames = fs; waiting = w }) → has_frames fs ≡ true → waiting_ready g s w ≡ true → Goes g (λ move. its move g)
  goes_frames g [] w e h r = absurd (cc)
  goes_frames g (f ∷ below) w e h r = goes_wait g f below w e r

  record Movable (k : ℕ) (xs : List Goroutine) : Type 0 where
    at : ℕ
    goroutine : Goroutine
    is_at : slice_get xs at ≡ Some goroutine
    can : can_move (k + at) s goroutine ≡ true

  movable : (k : ℕ) (xs : List Goroutine) → any_moves k xs s ≡ true → Movable k xs
  movable k [] e = absurd (cc)
  movable k (x ∷ xs) e = by_first (movable (suc k) xs) (or_either (can_move k s x) (any_moves (suc k) xs s) e)
    where
      by_first : (any_moves (suc k) xs s ≡ true → Movable (suc k) xs) → (can_move k s x ≡ true) ⊎ (any_moves (suc k) xs s ≡ true) → Movable k (x ∷ xs)
      by_first next (inl h) = let z : k ≡ k + 0 = omega arith in record { at = 0; goroutine = x; is_at = refl; can = subst (λ i. can_move i s x ≡ true) z h }
      by_first next (inr h) =
          let r = next h in
          let z : suc k + r.at ≡ k + suc r.at = omega arith in
          record { at = suc r.at; goroutine = r.goroutine; is_at = r.is_at; can = subst (λ i. can_move i s r.goroutine ≡ true) z r.can }

  some_goes : any_moves 0 s.goroutines s ≡ true → (g : ℕ) × Goes g (λ move. its move g)
  some_goes e =
      let r = movable 0 s.goroutines e in
      let z : 0 + r.at ≡ r.at = omega arith in
      let c : can_move r.at s r.goroutine ≡ true = subst (λ i. can_move i s r.goroutine ≡ true) z r.can in
      let q = and_both (has_frames r.goroutine.frames) (waiting_ready r.at s r.goroutine.waiting) c in
      (r.at, goes_frames r.at r.goroutine.frames r.goroutine.waiting r.is_at q.0 q.1)

  goes_on : (b : Bool) → any_moves 0 s.goroutines s ≡ b → (move : Move) × IsThere (if b then its move move.goroutine else Some (deadlocked s))
  goes_on true e = let k = (some_goes e).1 in (k.move, subst (λ i. IsThere (its k.move i)) (sym k.is_its) k.is_there)
  goes_on false e = (move_by 0 0 0 0, tt)

  has_next : s.end ≡ going → (move : Move) × IsThere (step p choices move s)
  has_next e =
      let k = goes_on (any_moves 0 s.goroutines s) refl in
      (k.0, subst (λ x. IsThere (while_going x (if any_moves 0 s.goroutines s then its k.0 k.0.goroutine else Some (deadlocked s)))) (sym e) k.1)

-- ---- runs

runs : (p : CoreProgram) (sound : Sound p) (choices : List ℕ) (moves : List Move) (s t : State) → WellFormed p s → after p choices moves s ≡ Some t → WellFormed p t
runs p sound choices [] s t wf e = subst (WellFormed p) (some_state s t e) wf
runs p sound choices (move ∷ moves) s t wf e = by_step (λ next h g. runs p sound choices moves next t h g) (step p choices move s) (keeps_step p sound choices s wf move) e
  where
    by_step : ((next : State) → WellFormed p next → after p choices moves next ≡ Some t → WellFormed p t) → (o : Option State) → KeepsIfThere p o → option_and_then (after p choices moves) o ≡ Some t → WellFormed p t
    by_step go None h e = absurd (cc)
    by_step go (Some next) h e = go next h e

pub steps : StepsKeep
steps p choices move s sound wf = keeps_step p sound choices s wf move

pub reached : ReachedWellFormed
reached p order choices s sound h r = runs p sound choices r.0 (start p order) s (starts p order sound h) r.1

pub goes_further : GoingGoesOn
goes_further p choices s sound wf e = has_next p sound choices s wf e
