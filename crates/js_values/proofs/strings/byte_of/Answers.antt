use Rattle.js_pool.specs.Tree.{length_of}
use Rattle.js_body.specs.State.{within_tree, index_refused}
use Rattle.js_body.specs.Tells.{around}
use Rattle.js_body.specs.Later.{itself, stands_later}
use Rattle.js_body.specs.StepLaws.{earlier, from_here, parts_kept}
use Rattle.js_values.proofs.strings.byte_of.Goals as goal

pub returns : goal.returns
returns c =
    let b = c.args.b.now in
    let p = c.length-n.new.self in
    let m = c.within-i.new.self in
    let q = c.char_code_at.new.self in
    let k = c.length-n.ensures in
    let w = c.within-i.ensures in
    let e = c.char_code_at.ensures in (
      λ end g. k.0.0 end (w.0 end (e.0.0 end g)),
      λ l t u h i s z.
          let l2 = earlier m.pool q e.0.0 l in
          let l1 = earlier p m.pool w.0 l2 in
          let h1 = stands_later (from_here b.pool p k.0.0 l1) h in
          let i1 = stands_later (from_here b.pool p k.0.0 l1) i in
          let v = w.1 l2 u (length_of t) i1 (k.1 p (itself p l1) t h1) s (parts_kept b.pool p b.stack.items b.temps b.declared.items (around b) s k.0 l1 z) in
          let h2 = stands_later (from_here p q (λ end x. w.0 end (e.0.0 end x)) l) h1 in (
            e.1 q (itself q l) t (within_tree c.args.kind u) h2 (stands_later (from_here m.pool q e.0.0 l) v.0),
            parts_kept m.pool q m.stack.items m.temps m.declared.items (around m) (index_refused c.args.kind u (length_of t) s) e.0 l v.1,
          ),
    )
