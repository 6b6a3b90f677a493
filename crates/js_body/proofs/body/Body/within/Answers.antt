use Rattle.js_body.specs.State.{index_refused}
use Rattle.js_body.specs.Tells.{around}
use Rattle.js_body.specs.Later.{itself, stands_later}
use Rattle.js_body.specs.StepLaws.{earlier, from_here, parts_kept}
use Rattle.js_body.proofs.body.Body.within.Goals as goal

pub returns : goal.returns
returns c =
    let b = c.args.self.now in
    let m = c.refuse_outside.new.self in
    let q = c.inside.new.p in (
      λ end g. c.refuse_outside.ensures.0 end (c.inside.ensures.0.0 end g),
      λ l t u h k s r.
          let e = earlier m.pool q c.inside.ensures.0.0 l in
          let g = from_here b.pool q (λ end z. c.refuse_outside.ensures.0 end (c.inside.ensures.0.0 end z)) l in (
            c.inside.ensures.1 q (itself q l) t (stands_later g h),
            parts_kept m.pool q m.stack.items m.temps m.declared.items (around m) (index_refused c.args.kind t u s) c.inside.ensures.0 l (c.refuse_outside.ensures.1 e t u h k s r),
          ),
    )
