use Rattle.js_body.specs.State.{fresh_tree}
use Rattle.js_body.specs.StepLaws.{earlier}
use Rattle.js_body.proofs.body.Body.bind.Goals as goal

pub returns : goal.returns
returns c =
    let m = c.fresh_var-e.new.self in
    let q = c.begin_slot.new.self in (
      λ end g. c.fresh_var-e.ensures.0 end (c.begin_slot.ensures.0 end g),
      λ l t h s r.
          let a = c.fresh_var-e.ensures.1 (earlier m.pool q.pool c.begin_slot.ensures.0 l) t h s r in
          c.begin_slot.ensures.1 l (fresh_tree c.args.h.boxed t) a.0 s a.1,
    )
