use Rattle.std.proofs.Common.{◌≡◌, ℕ, length, Option, arith, sym, subst}
use Rattle.js_tree.specs.Script.{Expr}
use Rattle.js_pool.specs.Stands.{Stands, opened}
use Rattle.js_body.specs.State.{last_value, popped, just_set, tree_or, taken_by, unset}
use Rattle.js_body.specs.Tells.{around, PartsTell}
use Rattle.js_body.specs.Later.{stands_later}
use Rattle.js_body.specs.StepLaws.{earlier, from_here, parts_depth}
use Rattle.js_body.proofs.Steps.{found, not_found}
use Rattle.js_body.proofs.body.Body.take.Goals as goal

pub returns-in-Some : goal.returns-in-Some
returns-in-Some c =
    let b = c.args.self.now in
    let m = c.pop-o.new.self in
    let q = c.unset.new.self in (
      λ end g. c.pop-o.ensures.0 end (c.unset.ensures.0 end g),
      λ l s t.
          let k = earlier m.pool q.pool c.unset.ensures.0 l in
          let v = c.pop-o.ensures.1 k s t in
          let f = found b.pool c.just_set-set.result c.in-Some.e (just_set s) (c.just_set-set.ensures s t) c.in-Some.is in
          let g = from_here b.pool q.pool (λ end h. c.pop-o.ensures.0 end (c.unset.ensures.0 end h)) l in
          let d = parts_depth m.pool (opened m.pool) m.stack.items m.temps m.declared.items (around m) (popped s) v.1 in
          let e : c.len-place.result ≡ length (popped s).stack = omega (arith, d, m.stack.ok.0) in
          let a = subst (λ (n : ℕ). PartsTell q.pool (opened q.pool) q.stack.items q.temps q.declared.items (around q) (unset n (popped s))) e (c.unset.ensures.1 l (popped s) v.1) in (
            subst (λ (z : Option Expr). Stands q.pool c.in-Some.e (tree_or (last_value s).tree z)) (sym f.1) (stands_later g f.2),
            subst (λ (z : Option Expr). PartsTell q.pool (opened q.pool) q.stack.items q.temps q.declared.items (around q) (taken_by z (popped s))) (sym f.1) a,
          ),
    )

pub returns-in-None : goal.returns-in-None
returns-in-None c =
    let b = c.args.self.now in
    let q = c.pop-o.new.self in (
      c.pop-o.ensures.0,
      λ l s t.
          let v = c.pop-o.ensures.1 l s t in
          let f = not_found b.pool c.just_set-set.result (just_set s) (c.just_set-set.ensures s t) c.in-None.is in (
            subst (λ (z : Option Expr). Stands q.pool c.pop-o.result.e (tree_or (last_value s).tree z)) (sym f) v.0.stands,
            subst (λ (z : Option Expr). PartsTell q.pool (opened q.pool) q.stack.items q.temps q.declared.items (around q) (taken_by z (popped s))) (sym f) v.1,
          ),
    )
