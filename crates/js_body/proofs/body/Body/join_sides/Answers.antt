use Rattle.std.proofs.Common.{◌≡◌, true, false, sym, ◌∙◌}
use Rattle.js_body.specs.State.{can_join, set_joined}
use Rattle.js_body.specs.StepLaws.{if_true, if_false, parts_same}
use Rattle.js_body.proofs.body.Body.join_sides.Goals as goal

pub returns-then-can_join : goal.returns-then-can_join
returns-then-can_join c = (
  c.set_joined.ensures.0,
  λ l t u h k s r.
      let e : can_join t u ≡ true = sym (c.can_join.ensures t u h k) ∙ c.if-can_join.true in
      (sym e, parts_same _ _ _ _ _ _ _ _ (if_true (can_join t u) (set_joined c.args.place c.args.both t u s) s e) (c.set_joined.ensures.1 l t u h k s r)),
)

pub returns-else-can_join : goal.returns-else-can_join
returns-else-can_join c = (
  λ end g. g,
  λ l t u h k s r.
      let e : can_join t u ≡ false = sym (c.can_join.ensures t u h k) ∙ c.if-can_join.false in
      (sym e, parts_same _ _ _ _ _ _ _ _ (if_false (can_join t u) (set_joined c.args.place c.args.both t u s) s e) r),
)
