use Rattle.std.proofs.Common.{true≢false, sym, ap, ◌∙◌}
use Rattle.js_body.specs.State.{Around, settled}
use Rattle.js_body.specs.Later.{stands_later}
use Rattle.js_body.specs.StepLaws.{earlier, from_here}
use Rattle.js_values.specs.Logic.{settled_plain}
use Rattle.js_values.proofs.logic.end_logic.Goals as goal

pub returns-then-b : goal.returns-then-b
returns-then-b c =
    let b = c.args.b.now in
    let m = c.settle.new.self in
    let q = c.end_plain.new.b in (
      λ end g. c.settle.ensures.0 end (c.end_plain.ensures.0 end g),
      λ l t h s x k ls base e n.
          let l1 = earlier m.pool q.pool c.end_plain.ensures.0 l in
          c.end_plain.ensures.1 l t (stands_later (from_here b.pool m.pool c.settle.ensures.0 l1) h) (settled s) (c.settle.ensures.1 l1 s x) ls base e n,
    )

pub returns-else-b : goal.returns-else-b
returns-else-b c =
    let m = c.settle.new.self in
    let q = c.mark.new.self in (
      λ end g. c.settle.ensures.0 end (c.mark.ensures end g),
      λ l t h s x k ls base e n.
          let a = c.settle.ensures.1 (earlier m.pool q.pool c.mark.ensures l) s x in
          absurd (true≢false (sym (ap (λ (near : Around). near.plain) a.around_is ∙ settled_plain s ∙ k) ∙ c.if-b.false)),
    )
