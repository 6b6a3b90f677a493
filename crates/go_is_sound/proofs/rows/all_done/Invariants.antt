use Rattle.std.proofs.Common.{◌≡◌, ◌<◌, ℕ, true}
use Rattle.std.specs.Prelude.{Some, slice_get}
use Rattle.go_is_sound.proofs.rows.all_done.Given as goal

abbrev pub invariant-rows : goal.invariant-rows
invariant-rows l = (k : ℕ) → k < l.i → slice_get l.done k ≡ Some true
