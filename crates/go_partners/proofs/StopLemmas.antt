-- What stops a part of a step stops the step, and what a change of a channel is in the definitions' memory.
use Rattle.std.proofs.Common.{◌≡◌, ◌<◌, refl, sym, ap, ◌∙◌, subst, ℕ, List, [], ◌∷◌, ◌++◌, map, length, get_or}
use Rattle.std.specs.Prelude.{◌+◌, Bool, Option, Some, unwrap_or, Result, Ok, Err, IsErrAnd, slice_get, slice_set}
use Rattle.std.specs.Borrow.{Bor}
use Rattle.std.proofs.lemmas.List.{map-set, map-append}
use Rattle.std.proofs.lemmas.Option.{slice_get-get_or}
use Rattle.std.specs.Prelude.{remove}
use Rattle.go_type.specs.Tree.{Ty}
use Rattle.go_core.specs.CoreTree.{CoreProgram}
use Rattle.go_core.specs.Communicate.{resumed, resumed_at, frames_of}
use Rattle.go_core.specs.Frames.{panic_step, to_panicking}
use Rattle.go_core.specs.RunPanic.{RunPanic, panic_value}
use Rattle.go_core.specs.Goroutine as defined
use Rattle.go_core.specs.Goroutine.{moved}
use Rattle.go_core.specs.Memory as core
use Rattle.go_core.specs.Memory.{Value}
use Rattle.go_state.proofs.ListsLemmas.{get_here}
use Rattle.go_values.specs.ValuesSeen.{channel_of, value_of, values_of}
use Rattle.go_values.specs.declared.values.memory.Channel as held_channel
use Rattle.go_values.specs.declared.values.scalar.Scalar.{Scalar}
use Rattle.go_values.specs.declared.operators.did.Stop.{Stop}
use Rattle.go_values.specs.declared.operators.did.Stop.TheVariants as stop
use Rattle.go_state.specs.StateSeen.{frame_of, goroutine_of, state_of}
use Rattle.go_state.specs.declared.state.frame.Frame as held_frame
use Rattle.go_state.specs.declared.state.state.Goroutine as held_goroutine
use Rattle.go_state.specs.declared.state.state.State as held
use Rattle.go_partners.specs.Moves.{TalkStep, Halts, Moves, frames_below, with_frames}
use Rattle.go_partners.specs.Wakes.{GoesOn, GoesOnBeside, Receives, Wakes}
use Rattle.go_partners.proofs.WakeLemmas.{moved_over}

module _ (ts : List Ty) where
  pub receives_stopped : (g : ℕ) (r : Result (Bor (List Scalar)) Stop) (x : Stop) (s s' : held.State) (step : ℕ → List defined.Task → defined.Frame → List defined.Frame → ℕ → defined.State → Option defined.State)
      → IsErrAnd r (λ y. y ≡ x) → Receives ts g (Err x) s s' step → Receives ts g r s s' step
  receives_stopped g (Ok a) x s s' step h t = absurd h
  receives_stopped g (Err y) x s s' step h t = subst (λ (z : Stop). Receives ts g (Err z) s s' step) (sym h) t

  -- a goroutine of the state was woken
  pub resumed_goes : (r : Result Unit Stop) (old new : held_goroutine.Goroutine) (s : defined.State) (s' : held.State) (vs : List Value) (after : List defined.Task) (partner : ℕ)
      → slice_get s.goroutines partner ≡ Some (goroutine_of ts old) → record s { goroutines = slice_set s.goroutines partner (goroutine_of ts new) } ≡ state_of ts s'
      → Wakes ts r old new vs after → GoesOn ts r s' (resumed vs after partner s)
  resumed_goes (Ok x) old new s s' vs after partner h e w = ap (λ (o : Option defined.Goroutine). resumed_at vs after partner (frames_of o) s) h ∙ w partner s ∙ ap Some e
  resumed_goes (Err stop.NoMemory) old new s s' vs after partner h e w = tt
  resumed_goes (Err stop.NoStep) old new s s' vs after partner h e w = ap (λ (o : Option defined.Goroutine). resumed_at vs after partner (frames_of o) s) h ∙ w partner s
  resumed_goes (Err (stop.Panics q n)) old new s s' vs after partner h e w = w

  module _ (p : CoreProgram) (g : ℕ) (f f' : held_frame.Frame) (s s' : held.State) where
    pub moves_stopped : (r : Result ℕ Stop) (x : Stop) (step : TalkStep) → IsErrAnd r (λ y. y ≡ x) → Moves p ts g (Err x) f f' s s' step → Moves p ts g r f f' s s' step
    moves_stopped (Ok a) x step h t = absurd h
    moves_stopped (Err y) x step h t = subst (λ (z : Stop). Halts p ts z g f f' s s' step) (sym h) t

    pub beside_stops : (e : Stop) (step : defined.State → defined.State → Option defined.State) (goes : defined.Frame → defined.Frame) (u : ℕ)
        → GoesOnBeside ts g (Err e) s s' step → Moves p ts g (Err e) f f' s s' (λ x below t. step t (moved g (goes x ∷ below) u t))
    beside_stops stop.NoMemory step goes u h = tt
    beside_stops stop.NoStep step goes u h = λ fs. h fs (goes (frame_of ts f) ∷ frames_below g (state_of ts s)) u
    beside_stops (stop.Panics q n) step goes u h = absurd h

    pub receive_stops : (e : Stop) (step : ℕ → List defined.Task → defined.Frame → List defined.Frame → ℕ → defined.State → Option defined.State) (n u : ℕ) (after : List defined.Task)
        → Receives ts g (Err e) s s' step → Moves p ts g (Err e) f f' s s' (λ x below t. step n after x below u t)
    receive_stops stop.NoMemory step n u after h = tt
    receive_stops stop.NoStep step n u after h = λ fs. h fs n after (frame_of ts f) (frames_below g (state_of ts s)) u
    receive_stops (stop.Panics q m) step n u after h = absurd h

-- a panic finds the state whatever frames stood there
pub panic_over : (p : CoreProgram) (g : ℕ) (q : RunPanic) (u : ℕ) (f : defined.Frame) (fs below : List defined.Frame) (s : defined.State)
    → panic_step p.hidden g q u f below (with_frames g fs s) ≡ panic_step p.hidden g q u f below s
panic_over p g q u f fs below s = ap (λ (t : defined.State). Some t) (moved_over g fs (to_panicking (panic_value p.hidden q) f ∷ below) (1 + u) s)

some_same : {A : Type 0} (a b : A) → Some a ≡ Some b → a ≡ b
some_same a b h = ap (λ o. unwrap_or o a) h

-- ---- a channel that is there

module _ (ts : List Ty) (chans : List held_channel.Channel) (name : ℕ) (old : held_channel.Channel) where
  pub channel_there : name < length chans → old ≡ get_or chans name old → slice_get (map (channel_of ts) chans) name ≡ Some (channel_of ts old)
  channel_there l e = get_here (channel_of ts) chans name old l e

  pub channel_is : (k : core.Channel) → name < length chans → old ≡ get_or chans name old → slice_get (map (channel_of ts) chans) name ≡ Some k → k ≡ channel_of ts old
  channel_is k l e h = some_same k (channel_of ts old) (sym h ∙ channel_there l e)

  -- other values lie there
  pub channel_put : (new : held_channel.Channel) (k : core.Channel) (vs : List Value) → k ≡ channel_of ts old → new.capacity ≡ old.capacity → new.closed ≡ old.closed → values_of ts new.values.items ≡ vs
      → map (channel_of ts) (slice_set chans name new) ≡ slice_set (map (channel_of ts) chans) name (record k { values = vs })
  channel_put new k vs h a b e =
      map-set (channel_of ts) chans name new
      ∙ ap (λ (n : ℕ). slice_set (map (channel_of ts) chans) name (let x : core.Channel = record { capacity = n; values = values_of ts new.values.items; closed = new.closed } in x)) a
      ∙ ap (λ (z : Bool). slice_set (map (channel_of ts) chans) name (let x : core.Channel = record { capacity = old.capacity; values = values_of ts new.values.items; closed = z } in x)) b
      ∙ ap (λ (ws : List Value). slice_set (map (channel_of ts) chans) name (let x : core.Channel = record { capacity = old.capacity; values = ws; closed = old.closed } in x)) e
      ∙ ap (λ (x : core.Channel). slice_set (map (channel_of ts) chans) name (record x { values = vs })) (sym h)

pub values_more : (ts : List Ty) (xs ys : List (Bor (List Scalar))) (x : Bor (List Scalar)) → xs ≡ ys ++ x ∷ [] → values_of ts xs ≡ values_of ts ys ++ value_of ts x.now ∷ []
values_more ts xs ys x e = ap (values_of ts) e ∙ map-append (λ v. value_of ts v.now) ys (x ∷ [])

-- the first of a list, and the others
pub front_of : {A : Type 0} (xs ys : List A) (x : A) → (length xs ≡ 0 → ⊥) → x ≡ get_or xs 0 x → ys ≡ remove xs 0 → xs ≡ x ∷ ys
front_of {A} [] ys x n e h = absurd (n refl)
front_of {A} (z ∷ zs) ys x n e h = ap (λ (a : A). a ∷ zs) (sym e) ∙ ap (λ (us : List A). x ∷ us) (sym h)

-- what two reads find at one place
pub same_at : {A : Type 0} (xs : List A) (i : ℕ) (a b : A) → i < length xs → a ≡ get_or xs i a → b ≡ get_or xs i b → a ≡ b
same_at {A} xs i a b l d e = d ∙ some_same (get_or xs i a) (get_or xs i b) (sym (slice_get-get_or xs i a l) ∙ slice_get-get_or xs i b l) ∙ sym e
