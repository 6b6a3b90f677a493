use Rattle.std.proofs.Common.{◌≡◌, ℕ, suc, ◌+◌, arith, ap, subst}
use Rattle.js_pool.specs.Stands.{opened}
use Rattle.js_body.specs.State.{gone_on_at, continued_upto}
use Rattle.js_body.specs.Tells.{around, PartsTell}
use Rattle.js_body.proofs.Steps.{parts_near}
use Rattle.js_body.proofs.body.Body.note_continued.Goals as goal

pub loop-i-preserved : goal.loop-i-preserved
loop-i-preserved c =
    let m = c.loop-i.self in
    let near = record (around m) { exits = c.note_at.new.exits.items } in
    let e : suc c.loop-i.i ≡ c.loop-i.i + 1 = omega arith in (
      c.loop-i.invariant.0,
      λ l s t.
          subst (λ (n : ℕ). PartsTell m.pool (opened m.pool) m.stack.items m.temps m.declared.items near (continued_upto c.args.label n s)) e
          (parts_near _ _ _ _ _ _ _ (continued_upto c.args.label c.loop-i.i s) (λ k. record k { exits = gone_on_at c.args.label c.loop-i.i k.exits }) (ap (λ es. record (around m) { exits = es }) c.note_at.ensures) (c.loop-i.invariant.1 l s t)),
    )
