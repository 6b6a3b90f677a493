use Rattle.std.proofs.Common.{ℕ, List, Bool, not, ◌&&◌, get_or, ap, ap₂, ◌∙◌}
use Rattle.js_facts.specs.declared.facts.VarFact.{VarFact}
use Rattle.js_facts.specs.Vars.{var_fact}
use Rattle.js_body.specs.State.{Around, home_at, home_near}
use Rattle.js_body.proofs.body.Body.home.Goals as goal

pub returns : goal.returns
returns c s h =
    let f = c.var-fact.result in
    let e = c.slot_at.ensures ∙ ap (λ (xs : List ℕ). get_or xs f.number 0) c.as_slice.ensures.value ∙ ap (λ (near : Around). get_or near.slots f.number 0) h.around_is in
    let b = c.is_boxed.ensures ∙ ap (λ (k : Bool). f.boxed && not k) (c.is_block-block.ensures s h) in
    ap₂ (home_at f) b e ∙ ap (λ (z : VarFact). home_near z s) (c.var-fact.ensures ∙ ap (λ (near : Around). var_fact near.facts c.args.v) h.around_is)
