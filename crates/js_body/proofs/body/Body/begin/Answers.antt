use Rattle.std.proofs.Common.{ap₂}
use Rattle.js_pool.specs.declared.pool.Mark.{Mark}
use Rattle.js_body.specs.State.{begun_near}
use Rattle.js_body.specs.Tells.{around}
use Rattle.js_body.proofs.Steps.{parts_begun}
use Rattle.js_body.proofs.body.Body.begin.Goals as goal

pub returns : goal.returns
returns c =
    let b = c.args.self.now in (
      λ end g. g,
      λ l s t.
          parts_begun b.pool b.stack.items _ b.temps b.declared.items _ (around b) _ s c.args.plain c.open_cases-self.result c.truncate-2.ensures.items c.truncate-3.ensures.items c.open_cases-self.ensures
          (ap₂ (λ hs es. record (begun_near c.args.plain c.open_cases-self.result (around b)) { results = hs; exits = es }) c.truncate.ensures.items c.truncate-4.ensures.items) t,
    )
