use Rattle.std.proofs.Common.{◌≡◌, ℕ, length, Bool, Option, ap, ap₂, ◌∙◌, subst}
use Rattle.js_pool.specs.Stands.{opened}
use Rattle.js_pool.specs.declared.pool.Mark.{Mark}
use Rattle.js_body.specs.State.{mark_at}
use Rattle.js_body.specs.Tells.{Tells, around}
use Rattle.js_body.specs.BlockLaws.{parts_lines}
use Rattle.js_body.specs.StepLaws.{parts_same}
use Rattle.js_plain.specs.Control.{begins_chain, chain_label, chain_labelled, if_with}
use Rattle.js_plain.specs.Lines.{mark_is}
use Rattle.js_plain.proofs.Blocks.{labelled_lines}
use Rattle.js_plain.proofs.control.begin_if.Goals as goal

pub returns : goal.returns
returns c =
    let q = c.chain_end-end.new.b in (
      c.chain_end-end.ensures.0,
      λ l s t.
          let k = c.chain_end-end.ensures.1 l s t in
          let m : c.open-mark.result.0 ≡ length s.lines = c.open-mark.ensures ∙ parts_lines q.pool (opened q.pool) q.stack.items q.temps q.declared.items (around q) (chain_labelled c.begins_chain-begins.result s) k.1 ∙ labelled_lines c.begins_chain-begins.result s in (
            ap₂ (if_with c.begins_chain-begins.result) k.0 (mark_is c.open-mark.result (length s.lines) m) ∙ ap (λ (z : Bool). if_with z (chain_label c.args.around z s) (mark_at (length s.lines))) c.begins_chain-begins.ensures,
            parts_same _ _ _ _ _ _ _ _ (ap (λ (z : Bool). chain_labelled z s) c.begins_chain-begins.ensures) k.1,
          ),
    )
