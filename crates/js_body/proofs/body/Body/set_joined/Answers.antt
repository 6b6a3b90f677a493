use Rattle.js_body.specs.State.{joined_tree, unset}
use Rattle.js_body.specs.Tells.{around}
use Rattle.js_body.specs.Later.{itself, stands_later}
use Rattle.js_body.specs.StepLaws.{earlier, from_here, parts_kept}
use Rattle.js_body.proofs.body.Body.set_joined.Goals as goal

pub returns : goal.returns
returns c =
    let b = c.args.self.now in
    let m = c.unset.new.self in
    let p = c.join_of-e.new.p in
    let q = c.set_temp.new.self in (
      λ end g. c.unset.ensures.0 end (c.join_of-e.ensures.0.0 end (c.set_temp.ensures.0 end g)),
      λ l t u h k s r.
          let m2 = earlier p q.pool c.set_temp.ensures.0 l in
          let m1 = earlier m.pool p c.join_of-e.ensures.0.0 m2 in
          let a = parts_kept m.pool p m.stack.items m.temps m.declared.items (around m) (unset c.args.place s) c.join_of-e.ensures.0 m2 (c.unset.ensures.1 m1 s r) in
          let g = from_here b.pool p (λ end z. c.unset.ensures.0 end (c.join_of-e.ensures.0.0 end z)) m2 in
          (c.set_temp.ensures.1 l (joined_tree c.args.both t u) (c.join_of-e.ensures.1 p (itself p m2) t u (stands_later g h) (stands_later g k)) (unset c.args.place s) a).1,
    )
