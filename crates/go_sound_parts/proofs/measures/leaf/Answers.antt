use Rattle.go_type.specs.Levels.{level}
use Rattle.go_sound_parts.proofs.MeasureLemmas.{leaf_measured}
use Rattle.go_sound_parts.proofs.measures.leaf.Goals as goal

pub returns-then-is_leaf : goal.returns-then-is_leaf
returns-then-is_leaf c = record { is = λ ns ts. leaf_measured ns (level ts c.args.g.now) c.leaf_compares.result c.leaf_is_key.result (c.is_leaf.ensures.is c.if-is_leaf.true ts) (λ e. c.leaf_compares.ensures.is e ts) (λ e. c.leaf_is_key.ensures.is e ts) }
