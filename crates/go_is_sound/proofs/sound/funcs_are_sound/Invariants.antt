use Rattle.std.proofs.Common.{◌≡◌, ◌<◌, ℕ}
use Rattle.std.specs.Prelude.{Some, slice_get}
use Rattle.go_core.specs.CoreTree.{CoreFunc}
use Rattle.go_core.specs.CoreView.{program_view}
use Rattle.go_core.specs.SoundProgram.{SoundFunc}
use Rattle.go_is_sound.specs.Facts.{Holds}
use Rattle.go_is_sound.proofs.sound.funcs_are_sound.Given as goal

abbrev pub invariant-funcs : goal.invariant-funcs
invariant-funcs l =
    let q = program_view l.p in
    Holds l.p l.facts → (k : ℕ) → k < l.k → (f : CoreFunc) → slice_get q.funcs k ≡ Some f → SoundFunc q k f
