use Rattle.std.proofs.Common.{◌∙◌, ap, map}
use Rattle.std.specs.Prelude.{reverse}
use Rattle.go_walk.specs.declared.labels.target.Target.{Target}
use Rattle.std.specs.Prelude.{List}
use Rattle.go_walk.specs.Left.{target_of}
use Rattle.go_walk.proofs.LabelsSteps.{pushed}
use Rattle.go_walk.proofs.labels.target.Targets.push.Goals as goal

pub returns-clause-value : goal.returns-clause-value
returns-clause-value c = ap (λ (ts : List Target). reverse (map target_of ts)) c.in_ok-push.ensures.items ∙ pushed target_of c.args.self.now.items.items c.args.target
