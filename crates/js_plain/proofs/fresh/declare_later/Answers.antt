use Rattle.std.proofs.Common.{[], ◌∷◌, ◌++◌, sym, ◌∙◌}
use Rattle.js_body.specs.State.{var_declared}
use Rattle.js_body.specs.StepLaws.{if_true, if_false, parts_same}
use Rattle.js_plain.specs.Fresh.{waits}
use Rattle.js_plain.proofs.fresh.declare_later.Goals as goal

pub returns-then-waits : goal.returns-then-waits
returns-then-waits c =
    let v = c.args.v in
    let vs = c.args.fresh.now.items in (
      c.keep.ensures.0,
      λ l s t h.
          let a = c.keep.ensures.1 l s t in
          let w = sym (c.waits.ensures s t) ∙ c.if-waits.true in (
            a.0 ∙ if_true (waits v s) (vs ++ v ∷ []) vs w,
            parts_same _ _ _ _ _ _ _ _ (if_true (waits v s) s (var_declared v s) w) a.1,
          ),
    )

pub returns-else-waits : goal.returns-else-waits
returns-else-waits c =
    let v = c.args.v in
    let vs = c.args.fresh.now.items in (
      c.declare.ensures.0,
      λ l s t h.
          let w = sym (c.waits.ensures s t) ∙ c.if-waits.false in (
            if_false (waits v s) (vs ++ v ∷ []) vs w,
            parts_same _ _ _ _ _ _ _ _ (if_false (waits v s) s (var_declared v s) w) (c.declare.ensures.1 l s t h),
          ),
    )
