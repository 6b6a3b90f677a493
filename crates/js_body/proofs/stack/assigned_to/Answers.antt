use Rattle.std.proofs.Common.{sym, ◌∙◌, subst}
use Rattle.js_pool.specs.declared.node.Stmt.{Stmt}
use Rattle.js_body.specs.Tells.{LineIs}
use Rattle.js_body.proofs.Steps.{only_here, only_elsewhere, not_assigned}
use Rattle.js_body.proofs.stack.assigned_to.Goals as goal

pub returns-then-is_temp : goal.returns-then-is_temp
returns-then-is_temp c p l h = only_here p c.in-Assign.x c.in-Assign.e c.args.place l (subst (λ (z : Stmt). LineIs p z l) c.in-Assign.is h) (sym c.is_temp.ensures ∙ c.if-is_temp.true)

pub returns-else-is_temp : goal.returns-else-is_temp
returns-else-is_temp c p l h = only_elsewhere p c.in-Assign.x c.in-Assign.e c.args.place l (subst (λ (z : Stmt). LineIs p z l) c.in-Assign.is h) (sym c.is_temp.ensures ∙ c.if-is_temp.false)

pub returns-in_default : goal.returns-in_default
returns-in_default c p l h = not_assigned p c.args.line c.args.place l h c.in_default.not-Assign
