use Rattle.std.proofs.Common.{true}
use Rattle.js_body.specs.State.{slot_tree, slot_read, fresh_tree}
use Rattle.js_body.specs.StepLaws.{earlier}
use Rattle.js_plain.proofs.function.box_slot.Goals as goal

pub returns : goal.returns
returns c =
    let a = c.slot-held.new.self in
    let m = c.fresh_var-boxed.new.self in
    let q = c.set_slot.new.self in
    let n = c.args.slot in (
      λ end g. c.slot-held.ensures.0 end (c.fresh_var-boxed.ensures.0 end (c.set_slot.ensures.0 end g)),
      λ l s t.
          let l2 = earlier m.pool q.pool c.set_slot.ensures.0 l in
          let h = c.slot-held.ensures.1 (earlier a.pool m.pool c.fresh_var-boxed.ensures.0 l2) s t in
          let d = c.fresh_var-boxed.ensures.1 l2 (slot_tree n s) h.0 (slot_read n s) h.1 in
          c.set_slot.ensures.1 l (fresh_tree true (slot_tree n s)) d.0 (slot_read n s) d.1,
    )
