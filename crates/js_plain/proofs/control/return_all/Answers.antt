use Rattle.std.proofs.Common.{◌≡◌, ◌≤◌, ℕ, length, sym, ap, ◌∙◌, subst}
use Rattle.js_pool.specs.Stands.{opened}
use Rattle.js_body.specs.Tells.{around}
use Rattle.js_body.specs.ListLaws.{parts_items}
use Rattle.js_body.specs.StepLaws.{earlier, parts_same}
use Rattle.js_plain.specs.Control.{results_listed, array_returned}
use Rattle.js_plain.proofs.Returns.{results_longer}
use Rattle.js_plain.proofs.control.return_all.Goals as goal

pub returns : goal.returns
returns c =
    let b = c.args.b.now in
    let m = c.list_results.new.b in
    let q = c.give_array.new.b in (
      λ end g. c.list_results.ensures.0 end (c.give_array.ensures.0 end g),
      λ l s t h.
          let e : c.open_list-mark.result.0 ≡ length s.items = c.open_list-mark.ensures ∙ parts_items b.pool (opened b.pool) b.stack.items b.temps b.declared.items (around b) s t in
          let u = c.list_results.ensures.1 (earlier m.pool q.pool c.give_array.ensures.0 l) s t h in
          let n = subst (λ (k : ℕ). k ≤ length (results_listed s).items) (sym e) (results_longer (length s.around.results) s) in
          parts_same _ _ _ _ _ _ _ _ (ap (λ (k : ℕ). array_returned k (results_listed s)) e) (c.give_array.ensures.1 l (results_listed s) u n),
    )
