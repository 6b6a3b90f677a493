use Rattle.js_tree.specs.Script.{no_stmts}
use Rattle.js_pool.specs.declared.node.Item.TheVariants as item
use Rattle.js_body.specs.State.{block_tree, lines_since, cut_to}
use Rattle.js_body.specs.Tells.{around}
use Rattle.js_body.specs.Later.{itself}
use Rattle.js_body.specs.BlockLaws.{block_later, block_says, parts_since}
use Rattle.js_body.specs.StepLaws.{earlier, from_here, parts_kept}
use Rattle.js_plain.specs.Lines.{parts_included}
use Rattle.js_plain.specs.Whole.{included}
use Rattle.js_plain.proofs.Ended.{names_later, top_named, included_longer}
use Rattle.js_plain.proofs.function.add_function.Goals as goal

pub returns : goal.returns
returns c =
    let b = c.args.b.now in
    let p = c.include.new.self in
    let m = c.close-body.new.self in
    let q = c.function.new.self in
    let mark = c.args.mark.0 in (
      λ end g. c.include.ensures.0 end (c.close-body.ensures.0 end (c.function.ensures.0.0 end g)),
      λ l xs x ls k s t n.
          let l2 = earlier m q c.function.ensures.0.0 l in
          let l1 = earlier p m c.close-body.ensures.0 l2 in
          let z = included ls s in
          let u = parts_included b.pool p b.stack.items b.temps b.declared.items (around b) s c.args.block ls k c.include.ensures l1 t in
          let d = parts_since p m b.stack.items b.temps b.declared.items (around b) z mark c.close-body.result (included_longer mark ls s n) c.close-body.ensures l2 u in
          let w = block_says (block_later (from_here m q c.function.ensures.0.0 l) d.0) in
          let y = names_later (from_here b.pool q (λ end g. c.include.ensures.0 end (c.close-body.ensures.0 end (c.function.ensures.0.0 end g))) l) x in
          let f = top_named c.func_name.result c.args.id.0 c.func_name.ensures q c.args.params c.close-body.result xs (block_tree (lines_since mark z) no_stmts) y w in (
            (item.Function c.func_name.result c.args.params c.close-body.result, m.items.items, c.function.ensures.1 q (itself q l), f),
            parts_kept m q b.stack.items b.temps b.declared.items (around b) (cut_to mark z) c.function.ensures.0 l d.1,
          ),
    )
