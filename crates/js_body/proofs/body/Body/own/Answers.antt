use Rattle.std.proofs.Common.{sym, ◌∙◌, true≢false}
use Rattle.js_body.proofs.body.Body.own.Goals as goal

pub returns-then-is_block : goal.returns-then-is_block
returns-then-is_block c = (c.copied.ensures, λ l u h s r e. absurd (true≢false (sym (sym (c.is_block.ensures s r) ∙ c.if-is_block.true) ∙ e)))

pub returns : goal.returns
returns c = (λ end g. g, λ l u h s r e. (h, r))
