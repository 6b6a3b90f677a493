use Rattle.std.proofs.Common.{refl}
use Rattle.js_body.specs.declared.body.Known.TheVariants as known
use Rattle.js_body.specs.State.{temp_tree}
use Rattle.js_body.proofs.Places.{parts_with_value}
use Rattle.js_body.proofs.body.Body.set_value.Goals as goal

pub returns : goal.returns
returns c = (
  c.set_temp-e.ensures.0,
  λ l t h s r.
      let a = c.set_temp-e.ensures.1 l t h s r in
      parts_with_value _ _ _ _ _ _ _ c.args.place _ (record { e = c.set_temp-e.result; known = known.Nothing }) (record { tree = temp_tree c.args.place; known = known.Nothing }) c.set_at.ensures (record { stands = a.0; known = refl }) a.1,
)
