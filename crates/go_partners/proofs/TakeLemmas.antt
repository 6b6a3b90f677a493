-- What a send and a receive are where it is known what is found on the channel.
use Rattle.std.proofs.Common.{◌≡◌, sym, ap, ◌∙◌, ℕ, List, [], ◌∷◌}
use Rattle.std.specs.Prelude.{◌+◌, Bool, true, false, ◌==◌, nat_lt, length, if◌then◌else◌, Option, Some, None, option_and_then, slice_get, Result, Ok, Err}
use Rattle.go_type.specs.Tree.{Ty}
use Rattle.go_core.specs.CoreTree.{CoreProgram}
use Rattle.go_core.specs.Communicate.{partner_offer, to_partner, from_partner, with_sent, sent, taken_from, on_channel, offer_taken, done_with, received}
use Rattle.go_core.specs.Frames.{panic_step}
use Rattle.go_core.specs.Goroutine.{Task, Frame, State, Move, sending, receiving, moved, with_memory}
use Rattle.go_core.specs.Memory.{Value, Channel, Memory, set_channel}
use Rattle.go_core.specs.RunPanic.{send_on_closed}
use Rattle.go_values.specs.declared.operators.did.Stop.{Stop}
use Rattle.go_values.specs.declared.operators.did.Stop.TheVariants as stop
use Rattle.go_state.specs.StateSeen.{frame_of, state_of}
use Rattle.go_state.specs.declared.state.frame.Frame as held_frame
use Rattle.go_state.specs.declared.state.state.State as held
use Rattle.go_partners.specs.Moves.{TalkStep, Moves, frames_below, with_frames}
use Rattle.go_partners.proofs.WakeLemmas.{moved_over}

pub if_true : {A : Type 0} (b : Bool) (x y : A) → b ≡ true → (if b then x else y) ≡ x
if_true {A} b x y h = ap (λ (c : Bool). if c then x else y) h

pub if_false : {A : Type 0} (b : Bool) (x y : A) → b ≡ false → (if b then x else y) ≡ y
if_false {A} b x y h = ap (λ (c : Bool). if c then x else y) h

-- ---- a step that is another one

module _ (p : CoreProgram) (ts : List Ty) where
  pub moves_as : (g : ℕ) (r : Result ℕ Stop) (f f' : held_frame.Frame) (s s' : held.State) (step other : TalkStep)
      → ((fs : List Frame) → step (frame_of ts f) (frames_below g (state_of ts s)) (with_frames g fs (state_of ts s)) ≡ other (frame_of ts f) (frames_below g (state_of ts s)) (with_frames g fs (state_of ts s)))
      → Moves p ts g r f f' s s' other → Moves p ts g r f f' s s' step
  moves_as g (Ok n) f f' s s' step other h m = λ fs. h fs ∙ m fs
  moves_as g (Err stop.NoMemory) f f' s s' step other h m = tt
  moves_as g (Err stop.NoStep) f f' s s' step other h m = λ fs. h fs ∙ m fs
  moves_as g (Err (stop.Panics q n)) f f' s s' step other h m = λ fs. h fs ∙ m fs

-- after a change of the memory
pub memory_moves : (g : ℕ) (fs below : List Frame) (s : State) (f f' : Frame) (u n : ℕ) (m m' : Memory) → f' ≡ f → n ≡ u → m' ≡ m
    → (let o : Option State = Some (with_memory m (moved g (f ∷ below) u (with_frames g fs s))) in o) ≡ Some (moved g (f' ∷ below) n (with_memory m' s))
memory_moves g fs below s f f' u n m m' a b c =
    ap (λ (t : State). Some (with_memory m t)) (moved_over g fs (f ∷ below) u s)
    ∙ ap (λ (t : Memory). Some (moved g (f ∷ below) u (with_memory t s))) (sym c)
    ∙ ap (λ (t : Frame). Some (moved g (t ∷ below) u (with_memory m' s))) (sym a)
    ∙ ap (λ (t : ℕ). Some (moved g (f' ∷ below) t (with_memory m' s))) (sym b)

-- in the same memory
pub frame_moves : (g : ℕ) (fs below : List Frame) (s : State) (f f' : Frame) (u n : ℕ) → f' ≡ f → n ≡ u
    → (let o : Option State = Some (moved g (f ∷ below) u (with_frames g fs s)) in o) ≡ Some (moved g (f' ∷ below) n s)
frame_moves g fs below s f f' u n a b =
    ap (λ (t : State). Some t) (moved_over g fs (f ∷ below) u s) ∙ ap (λ (t : Frame). Some (moved g (t ∷ below) u s)) (sym a) ∙ ap (λ (t : ℕ). Some (moved g (f' ∷ below) t s)) (sym b)

pub same_moves : (g : ℕ) (below : List Frame) (s : State) (f f' : Frame) (u n : ℕ) → f' ≡ f → n ≡ u → (let o : Option State = Some (moved g (f ∷ below) u s) in o) ≡ Some (moved g (f' ∷ below) n s)
same_moves g below s f f' u n a b = ap (λ (t : Frame). Some (moved g (t ∷ below) u s)) (sym a) ∙ ap (λ (t : ℕ). Some (moved g (f' ∷ below) t s)) (sym b)

module _ (p : CoreProgram) (g : ℕ) (move : Move) where
  -- ---- a channel that is there, or isn't

  pub there : (name : ℕ) (s : State) (c : Channel) (k : ℕ → Channel → Option State) → slice_get s.memory.channels name ≡ Some c → on_channel p g move (Some name) s k ≡ k name c
  there name s c k h = ap (option_and_then (k name)) h

  pub send_there : (name : ℕ) (x : Value) (u : ℕ) (after : List Task) (c : Channel) (f : Frame) (below : List Frame) (s : State) → slice_get s.memory.channels name ≡ Some c
      → offer_taken p g move (Some (sending (Some name) x u after)) f below s ≡ sent p g move name x u after c f below s
  send_there name x u after c f below s h = ap (option_and_then (λ (k : Channel). sent p g move name x u after k f below s)) h

  pub receive_there : (name : ℕ) (z : Value) (u n : ℕ) (after : List Task) (c : Channel) (f : Frame) (below : List Frame) (s : State) → slice_get s.memory.channels name ≡ Some c
      → offer_taken p g move (Some (receiving (Some name) z u n after)) f below s ≡ taken_from p g move c.values name z u n after c f below s
  receive_there name z u n after c f below s h = ap (option_and_then (λ (k : Channel). taken_from p g move k.values name z u n after k f below s)) h

  pub missing : (name : ℕ) (s : State) (k : ℕ → Channel → Option State) → slice_get s.memory.channels name ≡ None → on_channel p g move (Some name) s k ≡ None
  missing name s k h = ap (option_and_then (k name)) h

  -- ---- a send

  module _ (name : ℕ) (x : Value) (u : ℕ) (after : List Task) (c : Channel) (f : Frame) (below : List Frame) (s : State) where
    pub sent_closed : c.closed ≡ true → sent p g move name x u after c f below s ≡ panic_step p.hidden g send_on_closed 0 f below s
    sent_closed h = if_true c.closed _ _ h

    pub sent_room : c.closed ≡ false → nat_lt (length c.values) c.capacity ≡ true
        → sent p g move name x u after c f below s ≡ Some (with_memory (set_channel s.memory name (with_sent p g move x c)) (moved g (done_with [] after f ∷ below) (1 + u) s))
    sent_room h k = if_false c.closed _ _ h ∙ if_true (nat_lt (length c.values) c.capacity) _ _ k

    pub sent_partner : c.closed ≡ false → nat_lt (length c.values) c.capacity ≡ false → (c.capacity == 0) ≡ true
        → sent p g move name x u after c f below s ≡ to_partner p g move name x (partner_offer g move s) (moved g (done_with [] after f ∷ below) (1 + u) s)
    sent_partner h k l = if_false c.closed _ _ h ∙ if_false (nat_lt (length c.values) c.capacity) _ _ k ∙ if_true (c.capacity == 0) _ _ l

    pub sent_nothing : c.closed ≡ false → nat_lt (length c.values) c.capacity ≡ false → (c.capacity == 0) ≡ false → sent p g move name x u after c f below s ≡ None
    sent_nothing h k l = if_false c.closed _ _ h ∙ if_false (nat_lt (length c.values) c.capacity) _ _ k ∙ if_false (c.capacity == 0) _ _ l

  -- ---- a receive

  module _ (name : ℕ) (z : Value) (u n : ℕ) (after : List Task) (c : Channel) (f : Frame) (below : List Frame) (s : State) where
    pub taken_front : (x : Value) (xs : List Value) → c.values ≡ x ∷ xs
        → taken_from p g move c.values name z u n after c f below s
        ≡ Some (with_memory (set_channel s.memory name (record c { values = xs })) (moved g (done_with (received n x true) after f ∷ below) (1 + u) s))
    taken_front x xs h = ap (λ (vs : List Value). taken_from p g move vs name z u n after c f below s) h

    pub taken_closed : c.closed ≡ true → taken_from p g move [] name z u n after c f below s ≡ Some (moved g (done_with (received n z false) after f ∷ below) (1 + u) s)
    taken_closed h = if_true c.closed _ _ h

    pub taken_partner : c.closed ≡ false → (c.capacity == 0) ≡ true → taken_from p g move [] name z u n after c f below s ≡ from_partner p g move name n after (partner_offer g move s) f below u s
    taken_partner h k = if_false c.closed _ _ h ∙ if_true (c.capacity == 0) _ _ k

    pub taken_nothing : c.closed ≡ false → (c.capacity == 0) ≡ false → taken_from p g move [] name z u n after c f below s ≡ None
    taken_nothing h k = if_false c.closed _ _ h ∙ if_false (c.capacity == 0) _ _ k
