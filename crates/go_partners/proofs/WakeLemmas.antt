-- A partner goes on beside a goroutine that has moved.
use Rattle.std.proofs.Common.{◌≡◌, refl, sym, ap, ◌∙◌, ℕ, List, [], ◌∷◌, ◌++◌, arith}
use Rattle.std.specs.Prelude.{◌+◌, ◌≢◌, Option, Some, option_map, slice_get, slice_set}
use Rattle.go_core.specs.Communicate.{resumed, resumed_at, frames_of, done_with}
use Rattle.go_core.specs.Goroutine.{Task, Frame, able, Goroutine, State, moved}
use Rattle.go_core.specs.Memory.{Value}
use Rattle.std.proofs.lemmas.List.Sums.{fold-append}
use Rattle.go_type.specs.Tree.{Ty}
use Rattle.go_state.specs.StateSeen.{frame_of, goroutine_of, stacked}
use Rattle.go_state.specs.declared.state.frame.Frame as held_frame
use Rattle.go_state.specs.declared.state.state.Goroutine as held
use Rattle.go_partners.specs.Moves.{waiting_in, with_frames}
use Rattle.go_partners.proofs.PlacesLemmas.{get_other, set_twice, set_apart}

-- what the goroutine had before doesn't count
pub moved_over : (g : ℕ) (fs gs : List Frame) (units : ℕ) (s : State) → moved g gs units (with_frames g fs s) ≡ moved g gs units s
moved_over g fs gs units s =
    ap (λ (xs : List Goroutine). record s { goroutines = xs; units = s.units + units })
    (set_twice s.goroutines g (record { frames = fs; waiting = waiting_in (slice_get s.goroutines g) }) (record { frames = gs; waiting = able }))

add_zero : (n : ℕ) → n + 0 ≡ n
add_zero n = omega arith

moved_apart : (g h : ℕ) (gs hs : List Frame) (units : ℕ) (s : State) → g ≢ h → moved h hs 0 (moved g gs units s) ≡ moved g gs units (moved h hs 0 s)
moved_apart g h gs hs units s d =
    ap (λ (n : ℕ). record s { goroutines = slice_set (slice_set s.goroutines g (record { frames = gs; waiting = able })) h (record { frames = hs; waiting = able }); units = n }) (add_zero (s.units + units) ∙ sym (ap (λ (n : ℕ). n + units) (add_zero s.units)))
    ∙ ap (λ (xs : List Goroutine). record s { goroutines = xs; units = (s.units + 0) + units }) (set_apart s.goroutines g h (record { frames = gs; waiting = able }) (record { frames = hs; waiting = able }) d)

resumed_at_apart : (vs : List Value) (after : List Task) (g h : ℕ) (gs hs : List Frame) (units : ℕ) (s : State) → g ≢ h
    → resumed_at vs after h hs (moved g gs units s) ≡ option_map (moved g gs units) (resumed_at vs after h hs s)
resumed_at_apart vs after g h gs [] units s d = refl
resumed_at_apart vs after g h gs (f ∷ below) units s d = ap Some (moved_apart g h gs (done_with vs after f ∷ below) units s d)

pub resumed_apart : (vs : List Value) (after : List Task) (g h : ℕ) (gs : List Frame) (units : ℕ) (s : State) → g ≢ h
    → resumed vs after h (moved g gs units s) ≡ option_map (moved g gs units) (resumed vs after h s)
resumed_apart vs after g h gs units s d =
    ap (λ (o : Option Goroutine). resumed_at vs after h (frames_of o) (moved g gs units s)) (get_other s.goroutines g h (record { frames = gs; waiting = able }) d)
    ∙ resumed_at_apart vs after g h gs (frames_of (slice_get s.goroutines h)) units s d

-- ---- a goroutine that was woken

stacked_push : {A B : Type 0} (f : A → B) (xs : List A) (x : A) → stacked f (xs ++ x ∷ []) ≡ f x ∷ stacked f xs
stacked_push {A} {B} f xs x = fold-append (λ (rest : List B) (y : A). f y ∷ rest) [] xs (x ∷ [])

-- by what the program has done: the frame on top has what was given, and it is able
pub woken_at : (ts : List Ty) (old new : held.Goroutine) (rest : List held_frame.Frame) (top after_top : held_frame.Frame) (vs : List Value) (after : List Task) (g : ℕ) (s : State)
    → old.frames.items ≡ rest ++ top ∷ [] → frame_of ts after_top ≡ done_with vs after (frame_of ts top)
    → goroutine_of ts new ≡ record { frames = frame_of ts after_top ∷ stacked (frame_of ts) rest; waiting = able }
    → resumed_at vs after g (goroutine_of ts old).frames s ≡ Some (record s { goroutines = slice_set s.goroutines g (goroutine_of ts new) })
woken_at ts old new rest top after_top vs after g s e d n =
    ap (λ (xs : List held_frame.Frame). resumed_at vs after g (stacked (frame_of ts) xs) s) e
    ∙ ap (λ (fs : List Frame). resumed_at vs after g fs s) (stacked_push (frame_of ts) rest top)
    ∙ ap (λ (f : Frame). Some (moved g (f ∷ stacked (frame_of ts) rest) 0 s)) (sym d)
    ∙ ap (λ (x : Goroutine). Some (record s { goroutines = slice_set s.goroutines g x; units = s.units + 0 })) (sym n)
    ∙ ap (λ (k : ℕ). Some (record s { goroutines = slice_set s.goroutines g (goroutine_of ts new); units = k })) (add_zero s.units)
