use Rattle.std.proofs.Common.{Option, sym, subst, ◌∙◌}
use Rattle.gj_base.specs.declared.kind.Kind.{Kind}
use Rattle.js_facts.specs.Held.{how}
use Rattle.js_body.specs.State.{State}
use Rattle.js_body.specs.Tells.{Runs}
use Rattle.js_values.specs.Values.{number_converted_at}
use Rattle.js_values.proofs.numbers.convert_number.Goals as goal

pub returns-in-Some : goal.returns-in-Some
returns-in-Some c =
    subst (λ (o : Option Kind). Runs c.args.b.now c.convert_int.new.b (λ (s : State). number_converted_at o c.args.from (how c.args.to) s)) (sym c.in-Some.is ∙ c.number_kind-number.ensures) c.convert_int.ensures

pub returns-in-None : goal.returns-in-None
returns-in-None c =
    subst (λ (o : Option Kind). Runs c.args.b.now c.encode_to.new.b (λ (s : State). number_converted_at o c.args.from (how c.args.to) s)) (sym c.in-None.is ∙ c.number_kind-number.ensures) c.encode_to.ensures
