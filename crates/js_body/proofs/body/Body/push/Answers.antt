use Rattle.std.proofs.Common.{◌≡◌, ℕ, length, refl, arith, subst}
use Rattle.js_pool.specs.Stands.{opened}
use Rattle.js_body.specs.declared.body.Known.TheVariants as known
use Rattle.js_body.specs.State.{temp_tree, set_temp, pushed_value}
use Rattle.js_body.specs.Tells.{around, PartsTell}
use Rattle.js_body.specs.StepLaws.{earlier, parts_depth}
use Rattle.js_body.proofs.body.Body.push.Goals as goal

pub returns : goal.returns
returns c =
    let q = c.put.new.self in
    let b = c.args.self.now in (
      λ end g. c.set_temp-e.ensures.0 end (c.put.ensures.0 end g),
      λ l t h s r.
          let m = earlier c.set_temp-e.new.self.pool q.pool c.put.ensures.0 l in
          let a = c.set_temp-e.ensures.1 m t h s r in
          let d = parts_depth b.pool (opened b.pool) b.stack.items b.temps b.declared.items (around b) s r in
          let e : c.len-place.result ≡ length s.stack = omega (arith, d, b.stack.ok.0) in
          subst (λ (n : ℕ). PartsTell q.pool (opened q.pool) q.stack.items q.temps q.declared.items (around q) (pushed_value (record { tree = temp_tree n; known = known.Nothing }) (set_temp n t s))) e
          (c.put.ensures.1 l (record { tree = temp_tree c.len-place.result; known = known.Nothing }) (record { stands = a.0; known = refl }) (set_temp c.len-place.result t s) a.1),
    )
