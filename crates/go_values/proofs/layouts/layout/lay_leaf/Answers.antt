use Rattle.go_type.specs.Levels.{level}
use Rattle.go_values.specs.Laid.{leaf_kind}
use Rattle.go_values.proofs.LayoutSteps.{adds_one}
use Rattle.go_values.proofs.layouts.layout.lay_leaf.Goals as goal

pub returns : goal.returns
returns c = record { value = λ ts us. adds_one ts c.args.out.now c.push.new.out c.args.looked c.zero_of.result (leaf_kind (level us c.args.level.now)) c.in_ok-push.ensures.zeros c.in_ok-push.ensures.flags c.in_ok-push.ensures.composites (c.zero_of.ensures.value ts us) }
