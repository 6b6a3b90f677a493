-- A channel that is closed, by what is found.
use Rattle.std.proofs.Common.{◌≡◌, refl, ap, sym, ◌∙◌, ℕ, List, ◌∷◌, map}
use Rattle.std.specs.Prelude.{◌+◌, true, false, Some, slice_get, slice_set}
use Rattle.std.proofs.lemmas.List.{map-set}
use Rattle.go_type.specs.Tree.{Ty}
use Rattle.go_core.specs.CoreTree.{CoreProgram}
use Rattle.go_core.specs.Communicate.{closed_at, waiting_at, close_named}
use Rattle.go_core.specs.Frames.{panic_step}
use Rattle.go_core.specs.RunPanic.{closed_twice}
use Rattle.go_core.specs.Goroutine.{Frame, State, Move, moved, with_memory}
use Rattle.go_core.specs.Memory.{Channel, Memory, set_channel}
use Rattle.go_values.specs.ValuesSeen.{channel_of}
use Rattle.go_values.specs.declared.values.memory.Channel as held_channel
use Rattle.go_partners.specs.Moves.{with_frames}
use Rattle.go_partners.proofs.FramesLemmas.{waiting_at_same}
use Rattle.go_partners.proofs.TakeLemmas.{if_true, if_false, there, memory_moves}
use Rattle.go_partners.proofs.StopLemmas.{panic_over}

-- a channel as it is once it is closed
pub shut_there : (ts : List Ty) (chans : List held_channel.Channel) (name : ℕ) (old new : held_channel.Channel) (k : Channel) → k ≡ channel_of ts old → channel_of ts new ≡ record (channel_of ts old) { closed = true }
    → map (channel_of ts) (slice_set chans name new) ≡ slice_set (map (channel_of ts) chans) name (record k { closed = true })
shut_there ts chans name old new k h e =
    map-set (channel_of ts) chans name new
    ∙ ap (λ (x : Channel). slice_set (map (channel_of ts) chans) name x) (e ∙ ap (λ (x : Channel). let y : Channel = record x { closed = true } in y) (sym h))

module _ (p : CoreProgram) (g : ℕ) (move : Move) (name : ℕ) (k : Channel) (fs below : List Frame) (f : Frame) (s : State) where
  pub close_there : slice_get s.memory.channels name ≡ Some k → close_named p g move (Some name) f below (with_frames g fs s) ≡ closed_at p g move name k f below (with_frames g fs s)
  close_there h = there p g move name (with_frames g fs s) k (λ n c. closed_at p g move n c f below (with_frames g fs s)) h

  pub closed_again : k.closed ≡ true → closed_at p g move name k f below (with_frames g fs s) ≡ panic_step p.hidden g closed_twice 0 f below s
  closed_again h = if_true k.closed _ _ h ∙ panic_over p g closed_twice 0 f fs below s

  pub closed_now : (u : ℕ) (m : Memory) → k.closed ≡ false → u ≡ 1 + waiting_at p g move name s.goroutines → m ≡ set_channel s.memory name (record k { closed = true })
      → closed_at p g move name k f below (with_frames g fs s) ≡ Some (moved g (f ∷ below) u (with_memory m s))
  closed_now u m h a b =
      if_false k.closed _ _ h
      ∙ ap (λ (w : ℕ). Some (with_memory (set_channel s.memory name (record k { closed = true })) (moved g (f ∷ below) (1 + w) (with_frames g fs s)))) (waiting_at_same fs p g move name g s.goroutines)
      ∙ memory_moves g fs below s f f (1 + waiting_at p g move name s.goroutines) u (set_channel s.memory name (record k { closed = true })) m refl a b
