use Rattle.go_sound_parts.proofs.measures.all_turns.Goals as goal

pub turns-preserved : goal.turns-preserved
turns-preserved c = λ h. c.turn.ensures.is (c.turns.invariant h)
