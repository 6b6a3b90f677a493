use Rattle.go_sound_parts.proofs.measures.turn.Goals as goal

pub types-preserved : goal.types-preserved
types-preserved c = λ h. c.look.ensures.is (c.types.invariant h)
