use Rattle.std.proofs.Common.{◌≡◌, true, false, sym, ◌∙◌}
use Rattle.js_pool.specs.declared.node.Stmt.TheVariants as line
use Rattle.js_body.specs.State.{declares, assigns, is_first, with_declared}
use Rattle.js_body.specs.Tells.{word_of, declared, assigned}
use Rattle.js_body.specs.Later.{itself, stands_later}
use Rattle.js_body.specs.StepLaws.{earlier, if_true, if_false, parts_line, parts_same}
use Rattle.js_body.proofs.body.Body.set_name.Goals as goal

pub returns-then-is_first : goal.returns-then-is_first
returns-then-is_first c = (
  λ end g. c.set_declared.ensures.0 end (c.declare.ensures.0 end g),
  λ l t h s r.
      let m = earlier _ _ c.declare.ensures.0 l in
      let a = c.set_declared.ensures.1 m s r in
      let g = c.set_declared.ensures.0 _ (c.declare.ensures.0 _ (itself _ l)) in
      let e : is_first c.args.place s ≡ true = sym (c.is_first.ensures s r) ∙ c.if-is_first.true in
      parts_same _ _ _ _ _ _ _ _ (if_true (is_first c.args.place s) _ _ e) (parts_line _ _ _ _ _ _ (with_declared c.args.place true s) (line.Declare c.args.x c.args.e) (declares (word_of c.args.x) t) c.declare.ensures l (declared (stands_later g h)) a),
)

pub returns-else-is_first : goal.returns-else-is_first
returns-else-is_first c = (
  c.assign.ensures.0,
  λ l t h s r.
      let g = c.assign.ensures.0 _ (itself _ l) in
      let e : is_first c.args.place s ≡ false = sym (c.is_first.ensures s r) ∙ c.if-is_first.false in
      parts_same _ _ _ _ _ _ _ _ (if_false (is_first c.args.place s) _ _ e) (parts_line _ _ _ _ _ _ s (line.Assign c.args.x c.args.e) (assigns (word_of c.args.x) t) c.assign.ensures l (assigned (stands_later g h)) r),
)
