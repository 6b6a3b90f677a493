use Rattle.js_body.specs.State.{var_tree, slot_read}
use Rattle.js_body.specs.Tells.{around}
use Rattle.js_body.specs.Later.{stands_later}
use Rattle.js_body.specs.ListLaws.{parts_item}
use Rattle.js_body.specs.StepLaws.{earlier, from_here}
use Rattle.js_plain.proofs.control.list_var.Goals as goal

pub returns : goal.returns
returns c =
    let m = c.result_value-e.new.b in
    let q = c.item.new.self in
    let h = c.args.h in (
      λ end g. c.result_value-e.ensures.0 end (c.item.ensures.0 end g),
      λ l s t e.
          let a = c.result_value-e.ensures.1 (earlier m.pool q c.item.ensures.0 l) s t e in
          parts_item m.pool q m.stack.items m.temps m.declared.items (around m) (slot_read h.slot s) c.result_value-e.result (var_tree h s) c.item.ensures l (stands_later (from_here m.pool q c.item.ensures.0 l) a.0) a.1,
    )
