use Rattle.std.proofs.Common.{Option, Some, sym, ap, ◌∙◌}
use Rattle.js_tree.specs.Script.{Expr}
use Rattle.js_body.specs.State.{only_set, may_join, sides_joined}
use Rattle.js_body.specs.StepLaws.{parts_same}
use Rattle.js_body.proofs.Steps.{found, not_found}
use Rattle.js_body.proofs.body.Body.join_left.Goals as goal

pub returns-in-Some : goal.returns-in-Some
returns-in-Some c = (
  c.join_sides.ensures.0,
  λ l t h ls k s r.
      let f = found c.args.self.now.pool c.only_set.result c.in-Some.right (only_set c.args.place ls) (c.only_set.ensures ls k) c.in-Some.is in
      let d = c.join_sides.ensures.1 l t f.0 h f.2 s r in
      (d.0 ∙ ap (may_join (Some t)) (sym f.1), parts_same _ _ _ _ _ _ _ _ (ap (λ (z : Option Expr). sides_joined c.args.place c.args.both (Some t) z s) (sym f.1)) d.1),
)

pub returns-in-None : goal.returns-in-None
returns-in-None c = (
  λ end g. g,
  λ l t h ls k s r.
      let f = not_found c.args.self.now.pool c.only_set.result (only_set c.args.place ls) (c.only_set.ensures ls k) c.in-None.is in
      (ap (may_join (Some t)) (sym f), parts_same _ _ _ _ _ _ _ _ (ap (λ (z : Option Expr). sides_joined c.args.place c.args.both (Some t) z s) (sym f)) r),
)
