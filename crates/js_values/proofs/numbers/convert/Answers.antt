use Rattle.std.proofs.Common.{Option, Bool, ◌&&◌, sym, subst, ◌∙◌}
use Rattle.gj_base.specs.declared.kind.Kind.{Kind}
use Rattle.js_facts.specs.Held.{How, how}
use Rattle.js_body.specs.State.{State}
use Rattle.js_values.specs.Steps.{is_scalar, by_two_held, RunsWhen, always}
use Rattle.js_values.specs.Values.{number_converted, converted_at, converted}
use Rattle.js_values.proofs.numbers.convert.Goals as goal

pub returns-in-Some : goal.returns-in-Some
returns-in-Some c =
    let x = how c.held-x.result in
    let y = how c.held-y.result in
    by_two_held c.args.b.now c.convert_number.new.b c.args.from c.args.to x y (λ h i. is_scalar h && is_scalar i) converted c.held-x.ensures c.held-y.ensures
    (subst (λ (o : Option Kind). RunsWhen c.args.b.now c.convert_number.new.b (λ (s : State). is_scalar x && is_scalar y) (λ (s : State). converted_at o y s)) (sym c.in-Some.is ∙ c.number_kind-number.ensures)
    (always c.args.b.now c.convert_number.new.b (λ (s : State). is_scalar x && is_scalar y) (number_converted c.in-Some.kind y) c.convert_number.ensures))

pub returns-in-None : goal.returns-in-None
returns-in-None c =
    let x = how c.held-x.result in
    let y = how c.held-y.result in
    by_two_held c.args.b.now c.convert_other.new.b c.args.from c.args.to x y (λ h i. is_scalar h && is_scalar i) converted c.held-x.ensures c.held-y.ensures
    (subst (λ (o : Option Kind). RunsWhen c.args.b.now c.convert_other.new.b (λ (s : State). is_scalar x && is_scalar y) (λ (s : State). converted_at o y s)) (sym c.in-None.is ∙ c.number_kind-number.ensures) c.convert_other.ensures)
