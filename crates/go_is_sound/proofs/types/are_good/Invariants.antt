use Rattle.std.proofs.Common.{ℕ, ◌<◌}
use Rattle.go_type.specs.Levels.{tree_of}
use Rattle.go_type.specs.Table.{places}
use Rattle.go_core.specs.CoreView.{program_view}
use Rattle.go_core.specs.SoundNode.{IsGoodType}
use Rattle.go_sound_parts.specs.Measures.{AreKnown}
use Rattle.go_is_sound.proofs.types.are_good.Given as goal

abbrev pub invariant-types : goal.invariant-types
invariant-types l =
    let q = program_view l.p in
    AreKnown q.names (places l.p.types) l.measures → (k : ℕ) → k < l.i → IsGoodType q (tree_of (places l.p.types) (record { 0 = k }))
