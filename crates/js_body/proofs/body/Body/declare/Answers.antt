use Rattle.std.proofs.Common.{false, sym, ap, ◌≡◌, ◌∙◌, subst}
use Rattle.go_type.specs.declared.types.TypeId.{TypeId}
use Rattle.js_facts.specs.Held.{is_block}
use Rattle.js_body.specs.declared.body.Home.{Home}
use Rattle.js_body.specs.State.{held_type, zero_of, bound}
use Rattle.js_body.specs.Tells.{Tells}
use Rattle.js_body.specs.StepLaws.{earlier, parts_same}
use Rattle.js_body.proofs.body.Body.declare.Goals as goal

pub returns : goal.returns
returns c =
    let m = c.zero-zero.new.self in
    let q = c.bind.new.self in (
      λ end g. c.zero-zero.ensures.0 end (c.bind.ensures.0 end g),
      λ l s t e.
          let k = earlier m.pool q.pool c.bind.ensures.0 l in
          let h = c.home-h.ensures s t in
          let f : is_block (held_type c.home-h.result.ty s) ≡ false = ap (λ (z : Home). is_block (held_type z.ty s)) h ∙ e in
          let z = c.zero-zero.ensures.1 k s t f in
          parts_same _ _ _ _ _ _ _ _ (ap (λ (y : Home). bound y (zero_of y.ty s) s) h) (c.bind.ensures.1 l (zero_of c.home-h.result.ty s) z.0 s z.1),
    )
