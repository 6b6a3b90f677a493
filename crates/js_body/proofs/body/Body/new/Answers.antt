use Rattle.std.proofs.Common.{length, ap, ◌∙◌}
use Rattle.js_pool.specs.Stands.{Opened}
use Rattle.js_body.proofs.Steps.{parts_new, around_new}
use Rattle.js_body.proofs.body.Body.new.Goals as goal

pub returns : goal.returns
returns c g l =
    let m = c.open-open_lines.ensures ∙ ap (λ (o : Opened). length o.lines) g.0 in
    let k = c.open_cases-first_case.ensures ∙ ap (λ (o : Opened). length o.arms) g.0 in
    parts_new c.args.pool _ _ _ _ g l c.new-3.ensures.items c.new-4.ensures.items
    (around_new _ _ _ _ _ _ _ c.new.ensures.items c.new-2.ensures.items c.new-5.ensures c.new-6.ensures.items m k)
