-- The goroutine that moved is able, and so many units more are counted.
use Rattle.std.proofs.Common.{◌≡◌, ◌<◌, ap, sym, ◌∙◌, ℕ, List, length, get_or, map}
use Rattle.std.proofs.lemmas.List.{map-set}
use Rattle.std.specs.Prelude.{slice_get, slice_set}
use Rattle.go_type.specs.Tree.{Ty}
use Rattle.go_core.specs.Communicate.{frames_of}
use Rattle.go_core.specs.Goroutine as defined
use Rattle.go_core.specs.Goroutine.{able}
use Rattle.go_state.specs.StateSeen.{goroutine_of}
use Rattle.go_state.specs.declared.state.state.Goroutine.{Goroutine}
use Rattle.go_state.specs.declared.state.state.Waiting.TheVariants as waiting
use Rattle.go_state.proofs.ListsLemmas.{get_here}

pub able_again : (ts : List Ty) (xs : List Goroutine) (g : ℕ) (w : Goroutine) → g < length xs → w ≡ get_or xs g w
    → map (goroutine_of ts) (slice_set xs g (record w { waiting = waiting.Able }))
    ≡ slice_set (map (goroutine_of ts) xs) g (record { frames = frames_of (slice_get (map (goroutine_of ts) xs) g); waiting = able })
able_again ts xs g w l e =
    map-set (goroutine_of ts) xs g (record w { waiting = waiting.Able })
    ∙ ap (λ (fs : List defined.Frame). slice_set (map (goroutine_of ts) xs) g (record { frames = fs; waiting = able })) (sym (ap frames_of (get_here (goroutine_of ts) xs g w l e)))

pub same_state : (s : defined.State) (gs hs : List defined.Goroutine) (m n : ℕ) → gs ≡ hs → m ≡ n
    → record s { goroutines = gs; units = m } ≡ record s { goroutines = hs; units = n }
same_state s gs hs m n e f = ap (λ (xs : List defined.Goroutine). record s { goroutines = xs; units = m }) e ∙ ap (λ (k : ℕ). record s { goroutines = hs; units = k }) f
