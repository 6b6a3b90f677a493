use Rattle.std.proofs.Common.{◌∙◌}
use Rattle.js_pool.proofs.pool.Pool.new.Goals as goal

pub returns : goal.returns
returns c =
    (c.begin.ensures.open ∙ c.blank-pool.ensures.open, λ end g. let h = c.begin.ensures.first c.blank-pool.ensures.nodes end g in (h.0 ∙ c.blank-pool.ensures.items, h.1))
