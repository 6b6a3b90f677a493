use Rattle.std.proofs.Common.{rules, ◌∙◌, ap}
use Rattle.std.proofs.lemmas.Fn.{filter_same}
use Rattle.js_value.specs.ValueSeen.{entries_of}
use Rattle.js_value.proofs.Places.{without_is}
use Rattle.js_value.proofs.value.entries.remove.Goals as goal

pub returns : goal.returns
returns c = record { value = ap entries_of (filter_same _ _ _ (λ x b f' k. search rules) _ _ c.retain.ensures.filtered) ∙ without_is c.args.name.now c.args.entries.now.items }
