use Rattle.std.proofs.Common.{sym, ◌∙◌}
use Rattle.js_body.proofs.Steps.{one_line, more_than_one}
use Rattle.js_body.proofs.stack.only_line.Goals as goal

pub returns-then-is_one : goal.returns-then-is_one
returns-then-is_one c p l ls h e = one_line p _ c.args.place l ls c.args.many e (sym c.is_one.ensures ∙ c.if-is_one.true) (c.assigned_to.ensures p l h)

pub returns-else-is_one : goal.returns-else-is_one
returns-else-is_one c p l ls h e = more_than_one p c.args.place l ls c.args.many e (sym c.is_one.ensures ∙ c.if-is_one.false)
