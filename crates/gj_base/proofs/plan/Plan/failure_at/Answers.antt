use Rattle.std.proofs.Common.{sym, ap, ◌∙◌}
use Rattle.std.specs.Cmp.{nat_cmp_total}
use Rattle.std.specs.FinMap as map
use Rattle.gj_base.specs.Plan.{Plan}
use Rattle.gj_base.proofs.PlanLemmas.{get-lookup}
use Rattle.gj_base.proofs.plan.Plan.failure_at.Goals as goal

pub returns : goal.returns
returns c =
    c.copied.ensures
    ∙ c.get.ensures.value
    ∙ sym (get-lookup nat_cmp_total c.self.inside.failures.entries c.args.call)
    ∙ ap (λ (plan : Plan). map.get plan c.args.call) c.self.view_is
