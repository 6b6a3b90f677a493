use Rattle.std.proofs.Common.{Some, sym, ◌∙◌, nat_eq}
use Rattle.js_pool.specs.declared.node.Stmt.TheVariants as line
use Rattle.js_body.specs.State.{with_line}
use Rattle.js_body.specs.StepLaws.{if_true, if_false, parts_same}
use Rattle.js_plain.specs.Control.{again_line, left_at}
use Rattle.js_plain.specs.Lines.{line_said}
use Rattle.js_plain.proofs.Blocks.{goes_on}
use Rattle.js_plain.proofs.control.say_again.Goals as goal

pub returns-then-is_next : goal.returns-then-is_next
returns-then-is_next c =
    let e = c.args.exits in
    let w = line_said c.args.b.now c.again_at.new.self (line.Continue (Some c.label_name.result)) (again_line e.after) c.again_at.ensures (goes_on c.label_name.result e.after c.label_name.ensures) in
    (w.0, λ l s t. parts_same _ _ _ _ _ _ _ _ (if_true (nat_eq e.next e.after) (with_line (again_line e.after) s) (left_at e.next s) (sym c.is_next.ensures ∙ c.if-is_next.true)) (w.1 l s t))

pub returns-else-is_next : goal.returns-else-is_next
returns-else-is_next c =
    let e = c.args.exits in
    (c.leave_at.ensures.0, λ l s t. parts_same _ _ _ _ _ _ _ _ (if_false (nat_eq e.next e.after) (with_line (again_line e.after) s) (left_at e.next s) (sym c.is_next.ensures ∙ c.if-is_next.false)) (c.leave_at.ensures.1 l s t))
