use Rattle.std.proofs.Common.{◌≡◌, true, true≢false, sym, ap, ◌∙◌}
use Rattle.js_body.specs.State.{Around, last_value, popped, settled}
use Rattle.js_body.specs.StepLaws.{earlier}
use Rattle.js_values.specs.Logic.{settled_plain}
use Rattle.js_values.proofs.logic.begin_logic.Goals as goal

pub returns-then-b : goal.returns-then-b
returns-then-b c =
    let m = c.settle.new.self in
    let n = c.pop-x.new.self in
    let q = c.begin_plain.new.b in (
      λ end g. c.settle.ensures.0 end (c.pop-x.ensures.0 end (c.begin_plain.ensures.0 end g)),
      λ l s t k.
          let l2 = earlier n.pool q.pool c.begin_plain.ensures.0 l in
          let l1 = earlier m.pool n.pool c.pop-x.ensures.0 l2 in
          let v = c.pop-x.ensures.1 l2 (settled s) (c.settle.ensures.1 l1 s t) in
          c.begin_plain.ensures.1 l (last_value (settled s)).tree v.0.stands (popped (settled s)) v.1,
    )

pub returns-else-b : goal.returns-else-b
returns-else-b c =
    let m = c.settle.new.self in
    let n = c.pop-x.new.self in
    let q = c.begin_cases.new.b in (
      λ end g. c.settle.ensures.0 end (c.pop-x.ensures.0 end (c.begin_cases.ensures end g)),
      λ l s t k.
          let l2 = earlier n.pool q.pool c.begin_cases.ensures l in
          let l1 = earlier m.pool n.pool c.pop-x.ensures.0 l2 in
          let v = c.pop-x.ensures.1 l2 (settled s) (c.settle.ensures.1 l1 s t) in
          absurd (true≢false (sym (ap (λ (near : Around). near.plain) v.1.around_is ∙ settled_plain s ∙ k) ∙ c.if-b.false)),
    )
