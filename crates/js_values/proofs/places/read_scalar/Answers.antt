use Rattle.js_body.specs.State.{var_tree, slot_read}
use Rattle.js_body.specs.StepLaws.{earlier}
use Rattle.js_values.proofs.places.read_scalar.Goals as goal

pub returns : goal.returns
returns c =
    let m = c.var-e.new.self in
    let q = c.push_scalar.new.b in (
      λ end g. c.var-e.ensures.0 end (c.push_scalar.ensures.0 end g),
      λ l s t.
          let v = c.var-e.ensures.1 (earlier m.pool q.pool c.push_scalar.ensures.0 l) s t in
          c.push_scalar.ensures.1 l (var_tree c.args.h s) v.0 (slot_read c.args.h.slot s) v.1,
    )
