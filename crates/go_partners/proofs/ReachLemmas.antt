-- An operation that is reached, by which of its ways are ready.
use Rattle.std.proofs.Common.{◌≡◌, ◌<◌, ◌≤◌, refl, sym, ap, ◌∙◌, subst, ℕ, List, [], ◌∷◌, arith, add-one}
use Rattle.std.specs.Prelude.{◌+◌, ◌%◌, suc, length, get_or, Option, Some, None, Result, Ok, Err, IsErrAnd, slice_get, slice_set}
use Rattle.std.specs.Prelude.{unwrap_or}
use Rattle.std.proofs.lemmas.Option.{slice_get-get_or}
use Rattle.go_type.specs.Tree.{Ty}
use Rattle.go_core.specs.CoreTree.{CoreProgram}
use Rattle.go_core.specs.Communicate.{reached, way_taken}
use Rattle.go_core.specs.Control.{with_first}
use Rattle.go_core.specs.Frames.{to_panicking}
use Rattle.go_core.specs.RunPanic.{panic_value}
use Rattle.go_values.specs.ValuesSeen.{panic_of}
use Rattle.go_core.specs.Goroutine.{Task, Frame, State, Move, Offer, at_channels, Goroutine, moved}
use Rattle.go_values.specs.declared.operators.did.Stop.{Stop}
use Rattle.go_values.specs.declared.operators.did.Stop.TheVariants as stop
use Rattle.go_state.specs.StateSeen.{frame_of, state_of, waiting_of}
use Rattle.go_state.specs.declared.state.frame.Frame as held_frame
use Rattle.go_state.specs.declared.state.state.State as held
use Rattle.go_state.specs.declared.state.state.Waiting.TheVariants as waiting
use Rattle.go_partners.specs.Moves.{TalkStep, Halts, Moves, frames_below, with_frames, waiting_in}
use Rattle.go_partners.proofs.PlacesLemmas.{set_twice}
use Rattle.go_partners.proofs.TakeLemmas.{frame_moves}
use Rattle.go_partners.specs.Talks.{Talks, settled}
use Rattle.go_partners.specs.declared.selects.reach.Talked.{Talked}

module _ (p : CoreProgram) (ts : List Ty) (g : ℕ) where
  -- a step that is another one, from a state with the same frames
  pub moves_through : (r : Result ℕ Stop) (f f' : held_frame.Frame) (s m s' : held.State) (step other : TalkStep)
      → frames_below g (state_of ts m) ≡ frames_below g (state_of ts s)
      → ((fs : List Frame) → step (frame_of ts f) (frames_below g (state_of ts s)) (with_frames g fs (state_of ts s)) ≡ other (frame_of ts f) (frames_below g (state_of ts s)) (with_frames g fs (state_of ts m)))
      → Moves p ts g r f f' m s' other → Moves p ts g r f f' s s' step
  moves_through (Ok u) f f' s m s' step other e h k = λ fs.
      h fs
      ∙ ap (λ (b : List Frame). other (frame_of ts f) b (with_frames g fs (state_of ts m))) (sym e)
      ∙ k fs
      ∙ ap (λ (b : List Frame). Some (moved g (frame_of ts f' ∷ b) u (state_of ts s'))) e
  moves_through (Err stop.NoMemory) f f' s m s' step other e h k = tt
  moves_through (Err stop.NoStep) f f' s m s' step other e h k = λ fs. h fs ∙ ap (λ (b : List Frame). other (frame_of ts f) b (with_frames g fs (state_of ts m))) (sym e) ∙ k fs
  moves_through (Err (stop.Panics q n)) f f' s m s' step other e h k = λ fs.
      h fs
      ∙ ap (λ (b : List Frame). other (frame_of ts f) b (with_frames g fs (state_of ts m))) (sym e)
      ∙ k fs
      ∙ ap (λ (b : List Frame). Some (moved g (to_panicking (panic_value p.hidden (panic_of q)) (frame_of ts f') ∷ b) (1 + n) (state_of ts s'))) e

  -- it goes on
  pub talks_able : (t : Talked) (u : ℕ) (f f' : held_frame.Frame) (s s' : held.State) (step : TalkStep) → t ≡ record { waiting = waiting.Able; units = u }
      → Moves p ts g (Ok u) f f' s s' step → Talks p ts g (Ok t) f f' s s' step
  talks_able t u f f' s s' step e m = λ fs. m fs ∙ ap (λ (x : Talked). Some (settled g (frame_of ts f' ∷ frames_below g (state_of ts s)) (waiting_of ts x.waiting) x.units (state_of ts s'))) (sym e)

  -- a step that is another one, from another frame
  pub talks_from : (r : Result Talked Stop) (f h f' : held_frame.Frame) (s s' : held.State) (step other : TalkStep)
      → ((fs : List Frame) → step (frame_of ts f) (frames_below g (state_of ts s)) (with_frames g fs (state_of ts s)) ≡ other (frame_of ts h) (frames_below g (state_of ts s)) (with_frames g fs (state_of ts s)))
      → Talks p ts g r h f' s s' other → Talks p ts g r f f' s s' step
  talks_from (Ok t) f h f' s s' step other e m = λ fs. e fs ∙ m fs
  talks_from (Err stop.NoMemory) f h f' s s' step other e m = tt
  talks_from (Err stop.NoStep) f h f' s s' step other e m = λ fs. e fs ∙ m fs
  talks_from (Err (stop.Panics q n)) f h f' s s' step other e m = λ fs. e fs ∙ m fs

  -- what `?` hands on
  pub talks_stopped : (r : Result Talked Stop) (x : Stop) (f f' : held_frame.Frame) (s s' : held.State) (step : TalkStep)
      → IsErrAnd r (λ y. y ≡ x) → Halts p ts x g f f' s s' step → Talks p ts g r f f' s s' step
  talks_stopped (Ok a) x f f' s s' step i h = absurd i
  talks_stopped (Err y) x f f' s s' step i h = subst (λ (z : Stop). Halts p ts z g f f' s s' step) (sym i) h

  -- what is said of waiting and of units
  pub talks_same : (o : Option State) (t u : Talked) (fs : List Frame) (s : State) → t ≡ u
      → o ≡ Some (settled g fs (waiting_of ts u.waiting) u.units s) → o ≡ Some (settled g fs (waiting_of ts t.waiting) t.units s)
  talks_same o t u fs s e h = h ∙ ap (λ (x : Talked). Some (settled g fs (waiting_of ts x.waiting) x.units s)) (sym e)

module _ (p : CoreProgram) (g : ℕ) (move : Move) (choices : List ℕ) (u : ℕ) (offers : List Offer) (f : Frame) (below : List Frame) (s : State) where
  -- ---- none is ready

  pub reached_default : (d : List Task → List Task) (fs : List Frame) (f' : Frame) (n : ℕ) → f' ≡ with_first d f → n ≡ 1 + u
      → reached p g move choices (Some d) u offers [] f below (with_frames g fs s) ≡ Some (moved g (f' ∷ below) n s)
  reached_default d fs f' n e h = frame_moves g fs below s (with_first d f) f' (1 + u) n e h

  one_more : (m : ℕ) → m + 1 + u ≡ m + (1 + u)
  one_more m = omega arith

  pub reached_waits : (fs : List Frame) (os : List Offer) (n : ℕ) → os ≡ offers → n ≡ 1 + u
      → reached p g move choices None u offers [] f below (with_frames g fs s) ≡ Some (settled g (f ∷ below) (at_channels os) n s)
  reached_waits fs os n e h =
      let frames : List Offer → Goroutine = λ ws. record { frames = f ∷ below; waiting = at_channels ws } in
      ap (λ (xs : List Goroutine). Some (record s { goroutines = xs; units = s.units + 1 + u })) (set_twice s.goroutines g (record { frames = fs; waiting = waiting_in (slice_get s.goroutines g) }) (frames offers))
      ∙ ap (λ (k : ℕ). Some (record s { goroutines = slice_set s.goroutines g (frames offers); units = k })) (one_more s.units ∙ ap (λ (k : ℕ). s.units + k) (sym h))
      ∙ ap (λ (ws : List Offer). Some (record s { goroutines = slice_set s.goroutines g (frames ws); units = s.units + n })) (sym e)

  -- ---- some are

  pub reached_one : (d : Option (List Task → List Task)) (w : ℕ) → reached p g move choices d u offers (w ∷ []) f below s ≡ way_taken p g move w offers f below (record s { units = s.units + u })
  reached_one None w = refl
  reached_one (Some d) w = refl

  pub reached_more : (d : Option (List Task → List Task)) (w v : ℕ) (ws : List ℕ)
      → reached p g move choices d u offers (w ∷ v ∷ ws) f below s
      ≡ way_taken p g move (get_or (w ∷ v ∷ ws) (get_or choices s.taken 0 % length (w ∷ v ∷ ws)) w) offers f below (record s { units = s.units + u; taken = suc s.taken })
  reached_more None w v ws = refl
  reached_more (Some d) w v ws = refl

some_same : {A : Type 0} (a b d : A) → Some a ≡ Some b → a ≡ b
some_same a b d h = ap (λ o. unwrap_or o d) h

-- within a list it doesn't matter what is read past its end
pub within_default : (xs : List ℕ) (i d e : ℕ) → i < length xs → get_or xs i d ≡ get_or xs i e
within_default xs i d e h = some_same (get_or xs i d) (get_or xs i e) d (sym (slice_get-get_or xs i d h) ∙ slice_get-get_or xs i e h)

-- ---- which is chosen

-- the only one of a list
pub only_one : (xs : List ℕ) → length xs ≡ 1 → xs ≡ get_or xs 0 0 ∷ []
only_one [] h = absurd (omega (arith, h))
only_one (x ∷ []) h = refl
only_one (x ∷ y ∷ xs) h = absurd (omega (arith, h))

module _ (p : CoreProgram) (g : ℕ) (move : Move) (choices : List ℕ) (u : ℕ) (offers : List Offer) (f : Frame) (below : List Frame) (s : State) (d : Option (List Task → List Task)) where
  pub chosen_one : (ready : List ℕ) (way units : ℕ) → ready ≡ way ∷ [] → units ≡ s.units + u
      → reached p g move choices d u offers ready f below s ≡ way_taken p g move way offers f below (record s { units = units })
  chosen_one ready way units e h =
      ap (λ (ws : List ℕ). reached p g move choices d u offers ws f below s) e
      ∙ reached_one p g move choices u offers f below s d way
      ∙ ap (λ (k : ℕ). way_taken p g move way offers f below (record s { units = k })) (sym h)

  pub chosen_more : (ready : List ℕ) (way units taken number : ℕ) → 2 ≤ length ready → number ≡ get_or choices s.taken 0 → number % length ready < length ready
      → way ≡ get_or ready (number % length ready) 0 → units ≡ s.units + u → taken ≡ s.taken + 1
      → reached p g move choices d u offers ready f below s ≡ way_taken p g move way offers f below (record s { units = units; taken = taken })
  chosen_more [] way units taken number l n b e h k = absurd (omega arith)
  chosen_more (w ∷ []) way units taken number l n b e h k = absurd (omega arith)
  chosen_more (w ∷ v ∷ ws) way units taken number l n b e h k =
      let ready = w ∷ v ∷ ws in
      reached_more p g move choices u offers f below s d w v ws
      ∙ ap (λ (m : ℕ). way_taken p g move (get_or ready (m % length ready) w) offers f below (record s { units = s.units + u; taken = suc s.taken })) (sym n)
      ∙ ap (λ (x : ℕ). way_taken p g move x offers f below (record s { units = s.units + u; taken = suc s.taken })) (within_default ready (number % length ready) w 0 b ∙ sym e)
      ∙ ap (λ (m : ℕ). way_taken p g move way offers f below (record s { units = s.units + u; taken = m })) (sym (k ∙ add-one s.taken))
      ∙ ap (λ (m : ℕ). way_taken p g move way offers f below (record s { units = m; taken = taken })) (sym h)
