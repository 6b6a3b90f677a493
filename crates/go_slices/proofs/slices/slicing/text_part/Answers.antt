use Rattle.std.proofs.Common.{◌≡◌, ◌∙◌, ◌-◌, sym, ap, rules, take}
use Rattle.go_core.specs.StepNumbers.{made_text}
use Rattle.go_values.proofs.Steps.{goes}
use Rattle.go_slices.proofs.slices.slicing.text_part.Goals as goal

pub returns : goal.returns
returns c =
    let low = c.args.part.low in
    let count = c.args.part.high - low in
    let e : c.at_most-text.result.now ≡ take count c.from_on-rest.result.now = search rules in
    let text = e ∙ ap (take count) c.from_on-rest.ensures.value in
    record { value = λ ts m. goes ts m c.made_text.result _ _ (ap (made_text m) (sym text)) (c.made_text.ensures.value ts m) }
