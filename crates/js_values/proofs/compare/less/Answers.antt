use Rattle.std.proofs.Common.{Option, sym, subst, ◌∙◌}
use Rattle.gj_base.specs.declared.kind.Kind.{Kind}
use Rattle.js_facts.specs.Held.{How, how}
use Rattle.js_body.specs.State.{State}
use Rattle.js_body.specs.Tells.{Tells, Runs}
use Rattle.js_values.specs.Values.{less_at, less_done}
use Rattle.js_values.proofs.compare.less.Goals as goal

pub returns-in-Some : goal.returns-in-Some
returns-in-Some c =
    let q = c.lowered.new.b in
    let r = subst (λ (o : Option Kind). Runs c.args.b.now q (λ (s : State). less_at o c.args.op s)) (sym c.in-Some.is ∙ c.number_kind-number.ensures) c.lowered.ensures in
    (r.0, λ l s t. subst (λ (h : How). Tells q (less_done c.args.op h s)) (c.held-held.ensures s t) (r.1 l s t))

pub returns-in-None : goal.returns-in-None
returns-in-None c =
    let q = c.text_less.new.b in
    let r = subst (λ (o : Option Kind). Runs c.args.b.now q (λ (s : State). less_at o c.args.op s)) (sym c.in-None.is ∙ c.number_kind-number.ensures) c.text_less.ensures in
    (r.0, λ l s t. subst (λ (h : How). Tells q (less_done c.args.op h s)) (c.held-held.ensures s t) (r.1 l s t))
