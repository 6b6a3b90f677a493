use Rattle.std.proofs.Common.{◌≡◌, ℕ, ◌<◌, true}
use Rattle.go_type.specs.Tree.{named}
use Rattle.go_type.specs.Table.{places, names}
use Rattle.go_core.specs.Layout.{holds_by_value}
use Rattle.go_core.specs.SoundNode.{every}
use Rattle.go_sound_parts.specs.Measures.{AreKnown}
use Rattle.go_is_sound.proofs.types.are_set.Given as goal

abbrev pub invariant-names : goal.invariant-names
invariant-names l = AreKnown (names l.p.types) (places l.p.types) l.measures → (k : ℕ) → k < l.i → holds_by_value every (names l.p.types) (named k) ≡ true
