use Rattle.std.proofs.Common.{ℕ, arith, ap}
use Rattle.js_body.specs.Later.{stands_later}
use Rattle.js_body.specs.StepLaws.{earlier, from_here, parts_same}
use Rattle.js_plain.specs.Control.{chosen_set, choice_ended}
use Rattle.js_plain.proofs.Blocks.{chosen_longer}
use Rattle.js_plain.proofs.control.end_choice.Goals as goal

pub returns : goal.returns
returns c =
    let m = c.set_chosen-tag.new.b in
    let q = c.close_at.new.b in (
      λ end g. c.set_chosen-tag.ensures.0 end (c.close_at.ensures.0 end g),
      λ l s t n.
          let k = earlier m.pool q.pool c.close_at.ensures.0 l in
          let d = c.set_chosen-tag.ensures.1 k s t in
          let e = c.close_at.ensures.1 l (chosen_set c.default_of.result s) d.1 (chosen_longer c.default_of.result c.args.c.mark.0 s n) in
          (stands_later (from_here m.pool q.pool c.close_at.ensures.0 l) d.0, parts_same _ _ _ _ _ _ _ _ (ap (λ (i : ℕ). choice_ended c.args.c i s) c.default_of.ensures) e),
    )
