use Rattle.std.proofs.Common.{◌≡◌, true, false, sym, ap, ◌∙◌}
use Rattle.js_body.specs.State.{Around, declares, var_word}
use Rattle.js_body.specs.Tells.{around, declared}
use Rattle.js_body.specs.Later.{itself, stands_later}
use Rattle.js_body.specs.StepLaws.{if_true, if_false, parts_line, parts_same}
use Rattle.js_body.proofs.body.Body.begin_slot.Goals as goal

pub returns-then-self : goal.returns-then-self
returns-then-self c =
    let b = c.args.self.now in
    let q = c.declare.new.self in (
      c.declare.ensures.0,
      λ l t h s r.
          let g = c.declare.ensures.0 q (itself q l) in
          let k : s.around.plain ≡ true = sym (ap (λ (near : Around). near.plain) r.around_is) ∙ c.if-self.true in
          parts_same _ _ _ _ _ _ _ _ (if_true s.around.plain _ _ k)
          (parts_line b.pool q b.stack.items b.temps b.declared.items (around b) s _ (declares (var_word c.args.n) t) c.declare.ensures l (declared (stands_later g h)) r),
    )

pub returns-else-self : goal.returns-else-self
returns-else-self c = (
  c.set_slot.ensures.0,
  λ l t h s r.
      let k : s.around.plain ≡ false = sym (ap (λ (near : Around). near.plain) r.around_is) ∙ c.if-self.false in
      parts_same _ _ _ _ _ _ _ _ (if_false s.around.plain _ _ k) (c.set_slot.ensures.1 l t h s r),
)
