use Rattle.std.proofs.Common.{◌≡◌, ◌∙◌, sym, ap, Some}
use Rattle.js_value.specs.ValueSeen.{value_of}
use Rattle.js_value.proofs.Places.{lookup_found, lookup_none}
use Rattle.js_value.proofs.value.entries.lookup.Goals as goal

pub returns-in_ok-value-in-Some : goal.returns-in_ok-value-in-Some
returns-in_ok-value-in-Some c =
    let e : value_of c.in_ok-value-in-Some.value ≡ value_of c.index-entries-i.result.value = c.in_ok-value-in-Some.ensures.value ∙ ap (λ e. value_of e.value) (sym c.index-entries-i.is) in
    record { value = ap Some e ∙ sym (lookup_found c.args.name.now c.args.entries.now c.in-Some.i c.index-entries-i.result (sym c.in-Some.ensures.value) c.index-entries-i.is) }

pub returns-in-None : goal.returns-in-None
returns-in-None c = record { value = sym (lookup_none c.args.name.now c.args.entries.now (sym c.in-None.ensures.value)) }
