use Rattle.std.proofs.Common.{List, ap, ◌∙◌}
use Rattle.js_body.specs.declared.body.Exits.{Exits}
use Rattle.js_body.specs.State.{Around, exits_among}
use Rattle.js_body.proofs.body.Body.exits_of.Goals as goal

pub returns : goal.returns
returns c s t = c.exits_among.ensures ∙ ap (λ (es : List Exits). exits_among c.args.label es) c.as_slice.ensures.value ∙ ap (λ (near : Around). exits_among c.args.label near.exits) t.around_is
