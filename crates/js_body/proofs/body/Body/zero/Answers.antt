use Rattle.std.proofs.Common.{sym, ap, ◌∙◌, subst, true≢false}
use Rattle.js_tree.specs.Script.{Expr}
use Rattle.js_facts.specs.Held.{How}
use Rattle.js_pool.specs.Stands.{Stands}
use Rattle.js_body.specs.State.{zero_tree}
use Rattle.js_body.specs.Tells.{around}
use Rattle.js_body.specs.Later.{itself}
use Rattle.js_body.specs.StepLaws.{parts_kept}
use Rattle.js_body.proofs.body.Body.zero.Goals as goal

pub returns-then-is_block : goal.returns-then-is_block
returns-then-is_block c = (c.zero_block.ensures, λ l s t e. absurd (true≢false (sym (sym (c.is_block.ensures s t) ∙ c.if-is_block.true) ∙ e)))

pub returns : goal.returns
returns c =
    let b = c.args.self.now in
    let p = c.zero_of.new.p in (
      c.zero_of.ensures.0.0,
      λ l s t e. (
        subst (λ (h : How). Stands p c.zero_of.result (zero_tree h)) (c.held-held.ensures s t) (c.zero_of.ensures.1 p (itself p l)),
        parts_kept b.pool p b.stack.items b.temps b.declared.items (around b) s c.zero_of.ensures.0 l t,
      ),
    )
