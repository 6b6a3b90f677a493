use Rattle.std.proofs.Common.{None, sym, ◌∙◌}
use Rattle.go_core.specs.CoreView.{expr_view}
use Rattle.js_body.specs.StepLaws.{if_true, if_false}
use Rattle.js_values.specs.Exprs.{is_shift}
use Rattle.js_values.specs.Numbers.{constant_count}
use Rattle.js_values.proofs.expr.known_count.Goals as goal

pub returns-then-is_shift : goal.returns-then-is_shift
returns-then-is_shift c = λ ts. c.constant_count.ensures ts ∙ if_true (is_shift c.args.op) (constant_count (expr_view ts c.args.e.now)) None (sym c.is_shift.ensures ∙ c.if-is_shift.true)

pub returns-else-is_shift : goal.returns-else-is_shift
returns-else-is_shift c = λ ts. if_false (is_shift c.args.op) (constant_count (expr_view ts c.args.e.now)) None (sym c.is_shift.ensures ∙ c.if-is_shift.false)
