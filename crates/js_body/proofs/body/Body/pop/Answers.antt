use Rattle.std.proofs.Common.{◌≡◌, length, refl, arith}
use Rattle.std.proofs.lemmas.List.{nil_from_length}
use Rattle.js_body.specs.StepLaws.{parts_popped, parts_empty}
use Rattle.js_body.proofs.body.Body.pop.Goals as goal

pub returns-in-Some : goal.returns-in-Some
returns-in-Some c = (λ end g. g, λ l s t. parts_popped _ _ _ _ _ _ _ s _ c.in-Some.ensures.items t)

pub returns-in-None : goal.returns-in-None
returns-in-None c =
    let e : length c.args.self.now.stack.items ≡ 0 = omega (arith, c.args.self.now.stack.ok.0, c.in-None.ensures.cases) in
    let f : length c.pop.new.self.items ≡ 0 = omega (arith, c.pop.new.self.ok.0, c.in-None.ensures.cases) in
    (λ end g. g, λ l s t. parts_empty _ _ _ _ _ _ _ s _ (nil_from_length _ e) (nil_from_length _ f) refl refl t)
