-- A frame that is put over those of its goroutine, in the state of the definitions.
use Rattle.std.proofs.Common.{◌≡◌, ◌<◌, sym, ap, ◌∙◌, ℕ, List, [], ◌∷◌, ◌++◌, map, length, get_or, arith}
use Rattle.std.specs.Prelude.{◌+◌, slice_get, slice_set}
use Rattle.std.proofs.lemmas.List.{length-map, map-append, map-set}
use Rattle.go_type.specs.Tree.{Ty}
use Rattle.go_core.specs.Communicate.{frames_of}
use Rattle.go_core.specs.Goroutine.{Frame, Waiting, able, Goroutine, State}
use Rattle.go_state.specs.StateSeen.{frame_of, goroutine_of, stacked, waiting_of}
use Rattle.go_state.specs.declared.state.frame.Frame as held_frame
use Rattle.go_state.specs.declared.state.state.Goroutine as held
use Rattle.go_state.specs.declared.state.state.Waiting as held_waiting
use Rattle.go_state.proofs.ListsLemmas.{get_here}
use Rattle.go_partners.proofs.PlacesLemmas.{get_written, set_twice}
use Rattle.go_partners.specs.Talks.{settled}

module _ (ts : List Ty) where
  -- the frames of a goroutine that is there
  pub below_is : (xs : List held.Goroutine) (g : ℕ) (x : held.Goroutine) → g < length xs → x ≡ get_or xs g x
      → frames_of (slice_get (map (goroutine_of ts) xs) g) ≡ stacked (frame_of ts) x.frames.items
  below_is xs g x l e = ap frames_of (get_here (goroutine_of ts) xs g x l e)

  -- those of one that was written there
  pub below_written : (xs : List held.Goroutine) (g : ℕ) (x : held.Goroutine) → g < length xs
      → frames_of (slice_get (map (goroutine_of ts) (slice_set xs g x)) g) ≡ stacked (frame_of ts) x.frames.items
  below_written xs g x l =
      ap (λ (ys : List Goroutine). frames_of (slice_get ys g)) (map-set (goroutine_of ts) xs g x)
      ∙ ap frames_of (get_written (map (goroutine_of ts) xs) g (goroutine_of ts x) (omega (arith, l, length-map xs (goroutine_of ts))))

  -- what was written to the goroutine's place before doesn't count
  pub settled_over : (xs : List held.Goroutine) (g u : ℕ) (x : held.Goroutine) (fs : List Frame) (w : Waiting) (s : State)
      → (let o : State = settled g fs w u (record s { goroutines = map (goroutine_of ts) (slice_set xs g x) }) in o) ≡ settled g fs w u (record s { goroutines = map (goroutine_of ts) xs })
  settled_over xs g u x fs w s =
      ap (λ (ys : List Goroutine). let o : State = record s { goroutines = ys; units = s.units + u } in o)
      (ap (λ (ys : List Goroutine). slice_set ys g (record { frames = fs; waiting = w })) (map-set (goroutine_of ts) xs g x)
      ∙ set_twice (map (goroutine_of ts) xs) g (goroutine_of ts x) (record { frames = fs; waiting = w }))

  -- a goroutine that waits, with the frames that it has
  pub waits_there : (xs : List held.Goroutine) (g : ℕ) (x : held.Goroutine) (w : held_waiting.Waiting) → g < length xs → x ≡ get_or xs g x
      → map (goroutine_of ts) (slice_set xs g (record x { waiting = w }))
      ≡ slice_set (map (goroutine_of ts) xs) g (record { frames = frames_of (slice_get (map (goroutine_of ts) xs) g); waiting = waiting_of ts w })
  waits_there xs g x w l e =
      map-set (goroutine_of ts) xs g (record x { waiting = w })
      ∙ ap (λ (fs : List Frame). slice_set (map (goroutine_of ts) xs) g (record { frames = fs; waiting = waiting_of ts w })) (sym (below_is xs g x l e))

  -- one more goroutine
  pub one_started : (xs ys : List held.Goroutine) (x : held.Goroutine) (f : held_frame.Frame) → ys ≡ xs ++ x ∷ [] → x.frames.items ≡ f ∷ [] → waiting_of ts x.waiting ≡ able
      → map (goroutine_of ts) ys ≡ map (goroutine_of ts) xs ++ record { frames = frame_of ts f ∷ []; waiting = able } ∷ []
  one_started xs ys x f e h w =
      ap (map (goroutine_of ts)) e
      ∙ map-append (goroutine_of ts) xs (x ∷ [])
      ∙ ap (λ (fs : List held_frame.Frame). map (goroutine_of ts) xs ++ record { frames = stacked (frame_of ts) fs; waiting = waiting_of ts x.waiting } ∷ []) h
      ∙ ap (λ (v : Waiting). map (goroutine_of ts) xs ++ record { frames = frame_of ts f ∷ []; waiting = v } ∷ []) w
