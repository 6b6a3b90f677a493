use Rattle.std.proofs.Common.{◌≡◌, ◌≤◌, ℕ, length, sym, ap, ◌∙◌, subst}
use Rattle.js_pool.specs.Stands.{opened}
use Rattle.js_body.specs.State.{depth, dropped_to}
use Rattle.js_body.specs.Tells.{around}
use Rattle.js_body.specs.ListLaws.{parts_items}
use Rattle.js_body.specs.StepLaws.{earlier, parts_same}
use Rattle.js_plain.specs.Control.{values_listed, array_returned}
use Rattle.js_plain.proofs.Returns.{values_longer}
use Rattle.js_plain.proofs.control.return_several.Goals as goal

pub returns : goal.returns
returns c =
    let b = c.args.b.now in
    let m = c.list_values.new.b in
    let d = c.drop_to.new.self in
    let q = c.give_array.new.b in (
      λ end g. c.list_values.ensures.0 end (c.drop_to.ensures.0 end (c.give_array.ensures.0 end g)),
      λ l s t.
          let l2 = earlier d.pool q.pool c.give_array.ensures.0 l in
          let l1 = earlier m.pool d.pool c.drop_to.ensures.0 l2 in
          let e : c.open_list-mark.result.0 ≡ length s.items = c.open_list-mark.ensures ∙ parts_items b.pool (opened b.pool) b.stack.items b.temps b.declared.items (around b) s t in
          let u = c.drop_to.ensures.1 l2 (values_listed s) (c.list_values.ensures.1 l1 s t) in
          let n = subst (λ (k : ℕ). k ≤ length (values_listed s).items) (sym e) (values_longer (depth s) s) in
          parts_same _ _ _ _ _ _ _ _ (ap (λ (k : ℕ). array_returned k (dropped_to 0 (values_listed s))) e) (c.give_array.ensures.1 l (dropped_to 0 (values_listed s)) u n),
    )
