use Rattle.std.proofs.Common.{◌≡◌, ℤ, pos, Bool, true, false, true≢false, refl, sym, subst, ◌∙◌}
use Rattle.gj_base.specs.declared.kind.Kind.{Kind}
use Rattle.js_facts.specs.declared.held.Held.{Held}
use Rattle.js_facts.specs.declared.held.Held.TheVariants as held
use Rattle.js_facts.specs.Held.{how}
use Rattle.js_body.specs.declared.body.Body.{Body}
use Rattle.js_body.specs.State.{State}
use Rattle.js_body.specs.Tells.{Tells, Runs}
use Rattle.js_values.specs.Steps.{is_scalar, RunsWhen}
use Rattle.js_values.specs.Values.{zero_done}
use Rattle.js_values.proofs.constants.zero_of.Goals as goal

scalar_case : (b q : Body) (h j : Held) → h ≡ j → Runs b q (λ (s : State). zero_done (how j) s) → RunsWhen b q (λ (s : State). is_scalar (how h)) (λ (s : State). zero_done (how h) s)
scalar_case b q h j e r = (r.0, λ l s t w. subst (λ (z : Held). Tells q (zero_done (how z) s)) (sym e) (r.1 l s t))

no_scalar : (h : Held) → (h ≡ held.Truth → ⊥) → ((k : Kind) → h ≡ held.Small k → ⊥) → (h ≡ held.Str → ⊥) → ((k : Kind) → h ≡ held.Wide k → ⊥) → is_scalar (how h) ≡ false
no_scalar held.Truth n _ _ _ = absurd (n refl)
no_scalar (held.Small k) _ n _ _ = absurd (n k refl)
no_scalar held.Str _ _ n _ = absurd (n refl)
no_scalar (held.Wide k) _ _ _ n = absurd (n k refl)
no_scalar _ _ _ _ _ = refl

pub returns-in-Truth : goal.returns-in-Truth
returns-in-Truth c = scalar_case c.args.b.now c.push_truth.new.self c.args.held held.Truth c.in-Truth.is c.push_truth.ensures

pub returns-in-Small : goal.returns-in-Small
returns-in-Small c = scalar_case c.args.b.now c.push_number.new.self c.args.held _ c.in-Small.is c.push_number.ensures

pub returns-in-Str : goal.returns-in-Str
returns-in-Str c = scalar_case c.args.b.now c.push_text.new.b c.args.held held.Str c.in-Str.is c.push_text.ensures

pub returns-in-Wide : goal.returns-in-Wide
returns-in-Wide c = scalar_case c.args.b.now c.wide.new.b c.args.held _ c.in-Wide.is c.wide.ensures

pub returns-in-Struct : goal.returns-in-Struct
returns-in-Struct c = (c.zero_block.ensures, λ l s t w. absurd (true≢false (sym (subst (λ (z : Held). is_scalar (how z) ≡ true) c.in-Struct.is w))))

pub returns-in-Array : goal.returns-in-Array
returns-in-Array c = (c.zero_block-in-Array.ensures, λ l s t w. absurd (true≢false (sym (subst (λ (z : Held). is_scalar (how z) ≡ true) c.in-Array.is w))))

pub returns-in_default : goal.returns-in_default
returns-in_default c =
    let d = c.in_default in
    (c.push_nil.ensures.0, λ l s t w. absurd (true≢false (sym w ∙ no_scalar c.args.held d.not-Truth d.not-Small d.not-Str d.not-Wide)))
