use Rattle.std.proofs.Common.{◌≡◌, ℕ, ◌-◌, length, Bool, Option, Some, arith, sym, ap, ◌∙◌, subst}
use Rattle.js_tree.specs.Script.{Expr}
use Rattle.js_pool.specs.Stands.{opened}
use Rattle.js_body.specs.State.{just_set, only_set, may_join, sides_joined}
use Rattle.js_body.specs.Tells.{around}
use Rattle.js_body.specs.StepLaws.{parts_depth, parts_same}
use Rattle.js_body.proofs.Steps.{found, not_found}
use Rattle.js_body.proofs.body.Body.join.Goals as goal

pub returns-in-Some : goal.returns-in-Some
returns-in-Some c = (
  c.join_left.ensures.0,
  λ l ls k s r.
      let b = c.args.self.now in
      let d = parts_depth b.pool (opened b.pool) b.stack.items b.temps b.declared.items (around b) s r in
      let e : c.saturating_sub-place.result ≡ length s.stack - 1 = omega (arith, d, b.stack.ok.0) in
      let f = found b.pool c.just_set.result c.in-Some.left (just_set s) (c.just_set.ensures s r) c.in-Some.is in
      let j = c.join_left.ensures.1 l f.0 f.2 ls k s r in (
        j.0 ∙ ap (λ (n : ℕ). may_join (Some f.0) (only_set n ls)) e ∙ ap (λ (z : Option Expr). may_join z (only_set (length s.stack - 1) ls)) (sym f.1),
        parts_same _ _ _ _ _ _ _ _ (ap (λ (n : ℕ). sides_joined n c.args.both (Some f.0) (only_set n ls) s) e ∙ ap (λ (z : Option Expr). sides_joined (length s.stack - 1) c.args.both z (only_set (length s.stack - 1) ls) s) (sym f.1)) j.1,
      ),
)

pub returns-in-None : goal.returns-in-None
returns-in-None c = (
  λ end g. g,
  λ l ls k s r.
      let f = not_found c.args.self.now.pool c.just_set.result (just_set s) (c.just_set.ensures s r) c.in-None.is in (
        ap (λ (z : Option Expr). may_join z (only_set (length s.stack - 1) ls)) (sym f),
        parts_same _ _ _ _ _ _ _ _ (ap (λ (z : Option Expr). sides_joined (length s.stack - 1) c.args.both z (only_set (length s.stack - 1) ls) s) (sym f)) r,
      ),
)
