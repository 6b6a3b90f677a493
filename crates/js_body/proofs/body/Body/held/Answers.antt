use Rattle.std.proofs.Common.{ap, ◌∙◌}
use Rattle.go_type.specs.declared.table.TypeTable.{TypeTable}
use Rattle.js_facts.specs.Held.{how_held, is_block, kind_held}
use Rattle.js_body.specs.State.{Around}
use Rattle.js_body.proofs.body.Body.held.Goals as goal

pub returns : goal.returns
returns c s h =
    c.held_as.ensures
    ∙ ap (λ (table : TypeTable). how_held table c.args.t) c.table.ensures
    ∙ ap (λ (near : Around). how_held near.facts.«program».now.types c.args.t) h.around_is
