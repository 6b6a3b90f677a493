use Rattle.std.proofs.Common.{◌≡◌, false, ap, ◌∙◌}
use Rattle.js_facts.specs.declared.facts.Facts.{Facts}
use Rattle.js_facts.specs.Held.{is_block, how_held}
use Rattle.js_body.specs.State.{held_type, var_tree, slot_read}
use Rattle.js_body.specs.StepLaws.{earlier}
use Rattle.js_plain.proofs.Returns.{read_facts}
use Rattle.js_plain.proofs.control.result_value.Goals as goal

pub returns : goal.returns
returns c =
    let m = c.var-e.new.self in
    let q = c.own.new.self in
    let h = c.args.h in (
      λ end g. c.var-e.ensures.0 end (c.own.ensures.0 end g),
      λ l s t e.
          let a = c.var-e.ensures.1 (earlier m.pool q.pool c.own.ensures.0 l) s t in
          let f : is_block (held_type h.ty (slot_read h.slot s)) ≡ false = ap (λ (z : Facts). is_block (how_held z.«program».now.types h.ty)) (read_facts h.slot s) ∙ e in
          c.own.ensures.1 l (var_tree h s) a.0 (slot_read h.slot s) a.1 f,
    )
