use Rattle.std.proofs.Common.{◌≡◌, true, false, sym, ap, ◌∙◌, subst}
use Rattle.js_tree.specs.Script.{Expr}
use Rattle.js_pool.specs.Stands.{Stands}
use Rattle.js_body.specs.State.{last_value, popped, just_set, is_taken, taken_tree, taken}
use Rattle.js_body.specs.StepLaws.{if_true, if_false, parts_same}
use Rattle.js_body.proofs.Steps.{found, not_found}
use Rattle.js_body.proofs.body.Body.take_operand.Goals as goal

pub returns-then-is_operation : goal.returns-then-is_operation
returns-then-is_operation c =
    let b = c.args.self.now in
    let q = c.take.new.self in (
      c.take.ensures.0,
      λ l s t.
          let v = c.take.ensures.1 l s t in
          let f = found b.pool c.just_set.result c.in-Some.e (just_set s) (c.just_set.ensures s t) c.in-Some.is in
          let k : is_taken (just_set s) ≡ true = ap is_taken f.1 ∙ (sym (c.is_operation.ensures f.0 f.2) ∙ c.if-is_operation.true) in (
            subst (λ (z : Expr). Stands q.pool c.take.result z) (if_true (is_taken (just_set s)) (taken_tree s) (last_value s).tree k) v.0,
            parts_same _ _ _ _ _ _ _ _ (if_true (is_taken (just_set s)) (taken s) (popped s) k) v.1,
          ),
    )

pub returns-else-is_operation : goal.returns-else-is_operation
returns-else-is_operation c =
    let b = c.args.self.now in
    let q = c.pop.new.self in (
      c.pop.ensures.0,
      λ l s t.
          let v = c.pop.ensures.1 l s t in
          let f = found b.pool c.just_set.result c.in-Some.e (just_set s) (c.just_set.ensures s t) c.in-Some.is in
          let k : is_taken (just_set s) ≡ false = ap is_taken f.1 ∙ (sym (c.is_operation.ensures f.0 f.2) ∙ c.if-is_operation.false) in (
            subst (λ (z : Expr). Stands q.pool c.pop.result.e z) (if_false (is_taken (just_set s)) (taken_tree s) (last_value s).tree k) v.0.stands,
            parts_same _ _ _ _ _ _ _ _ (if_false (is_taken (just_set s)) (taken s) (popped s) k) v.1,
          ),
    )

pub returns-in-None : goal.returns-in-None
returns-in-None c =
    let b = c.args.self.now in
    let q = c.pop-in-None.new.self in (
      c.pop-in-None.ensures.0,
      λ l s t.
          let v = c.pop-in-None.ensures.1 l s t in
          let k : is_taken (just_set s) ≡ false = ap is_taken (not_found b.pool c.just_set.result (just_set s) (c.just_set.ensures s t) c.in-None.is) in (
            subst (λ (z : Expr). Stands q.pool c.pop-in-None.result.e z) (if_false (is_taken (just_set s)) (taken_tree s) (last_value s).tree k) v.0.stands,
            parts_same _ _ _ _ _ _ _ _ (if_false (is_taken (just_set s)) (taken s) (popped s) k) v.1,
          ),
    )
