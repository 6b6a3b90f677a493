use Rattle.std.proofs.Common.{Option, sym, subst, ◌∙◌}
use Rattle.gj_base.specs.declared.kind.Kind.{Kind}
use Rattle.gj_base.specs.declared.kind.Op.{Op}
use Rattle.js_facts.specs.Held.{how}
use Rattle.js_body.specs.State.{State}
use Rattle.js_body.specs.Tells.{Runs}
use Rattle.js_values.specs.Steps.{is_scalar, by_held, RunsWhen, always}
use Rattle.js_values.specs.Numbers.{lowered}
use Rattle.js_values.specs.Values.{equality, equal_at, equal_done}
use Rattle.js_values.proofs.compare.equal.Goals as goal

pub returns-in-Some : goal.returns-in-Some
returns-in-Some c =
    let h = how c.held-held.result in
    by_held c.args.b.now c.lowered.new.b c.args.t h is_scalar (equal_done c.args.negated) c.held-held.ensures
    (subst (λ (o : Option Kind). RunsWhen c.args.b.now c.lowered.new.b (λ (s : State). is_scalar h) (λ (s : State). equal_at o c.args.negated s)) (sym c.in-Some.is ∙ c.number_kind-number.ensures)
    (always c.args.b.now c.lowered.new.b (λ (s : State). is_scalar h) (lowered (equality c.args.negated) c.in-Some.kind)
    (subst (λ (o : Op). Runs c.args.b.now c.lowered.new.b (lowered o c.in-Some.kind)) c.equality.ensures c.lowered.ensures)))

pub returns-in-None : goal.returns-in-None
returns-in-None c =
    let h = how c.held-held.result in
    by_held c.args.b.now c.equal_other.new.b c.args.t h is_scalar (equal_done c.args.negated) c.held-held.ensures
    (subst (λ (o : Option Kind). RunsWhen c.args.b.now c.equal_other.new.b (λ (s : State). is_scalar h) (λ (s : State). equal_at o c.args.negated s)) (sym c.in-None.is ∙ c.number_kind-number.ensures) c.equal_other.ensures)
