use Rattle.std.proofs.Common.{ap, ◌∙◌}
use Rattle.std.specs.Cmp.{nat_cmp_total}
use Rattle.std.specs.FinMap as map
use Rattle.std.specs.FinMap.{nat_cmp-IsAntisymmetric}
use Rattle.gj_base.specs.Plan.{Plan}
use Rattle.gj_base.proofs.PlanLemmas.{updated}
use Rattle.gj_base.proofs.plan.Plan.fail.Goals as goal

pub returns-clause-value : goal.returns-clause-value
returns-clause-value c =
    updated nat_cmp_total nat_cmp-IsAntisymmetric c.self.inside.failures.entries c.insert.new.self.entries c.args.call c.args.after c.in_ok-insert.ensures.updates.0
    ∙ ap (λ (plan : Plan). map.insert plan c.args.call c.args.after) c.self.view_is
