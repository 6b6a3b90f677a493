use Rattle.std.proofs.Common.{ℕ, ◌++◌, codes, decimal, subst}
use Rattle.js_pool.specs.Tree as tree
use Rattle.js_pool.specs.Stands.{Stands, opened}
use Rattle.js_body.specs.State.{numbered, with_temp, set_name}
use Rattle.js_body.specs.Tells.{around, PartsTell}
use Rattle.js_body.specs.Later.{itself, stands_later}
use Rattle.js_body.specs.StepLaws.{earlier, from_here, parts_kept}
use Rattle.js_body.proofs.body.Body.set_temp.Goals as goal

pub returns : goal.returns
returns c =
    let q = c.named.new.self in
    let b = c.set_name.new.self in (
      λ end g. c.count_temp.ensures.0 end (c.set_name.ensures.0 end (c.named.ensures.0.0 end g)),
      λ l t h s r.
          let m2 = earlier b.pool q c.named.ensures.0.0 l in
          let m1 = earlier c.count_temp.new.self.pool b.pool c.set_name.ensures.0 m2 in
          let g1 = from_here c.args.self.now.pool c.count_temp.new.self.pool c.count_temp.ensures.0 m1 in
          let a = c.set_name.ensures.1 m2 t (stands_later g1 h) (with_temp c.temp_number-k.result s) (c.count_temp.ensures.1 m1 s r) in (
            subst (λ (n : ℕ). Stands q c.named.result (tree.name (codes "$t" ++ decimal n))) c.temp_number-k.ensures (c.named.ensures.1 q (itself q l)),
            subst (λ (n : ℕ). PartsTell q (opened q) b.stack.items b.temps b.declared.items (around b) (set_name c.args.place (numbered (codes "$t") n) t (with_temp n s))) c.temp_number-k.ensures (parts_kept b.pool q b.stack.items b.temps b.declared.items (around b) _ c.named.ensures.0 l a),
          ),
    )
