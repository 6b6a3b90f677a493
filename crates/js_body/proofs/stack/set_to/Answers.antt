use Rattle.std.proofs.Common.{sym, ◌∙◌, subst}
use Rattle.js_pool.specs.declared.node.Stmt.{Stmt}
use Rattle.js_body.specs.Tells.{LineIs}
use Rattle.js_body.proofs.Steps.{assigned_here, assigned_elsewhere, declared_here, declared_elsewhere, sets_nothing, not_setting}
use Rattle.js_body.proofs.stack.set_to.Goals as goal

pub returns-then-is_temp : goal.returns-then-is_temp
returns-then-is_temp c p l ls h = assigned_here p c.in-Assign.x c.in-Assign.e c.args.place l ls (subst (λ (z : Stmt). LineIs p z l) c.in-Assign.is h) (sym c.is_temp.ensures ∙ c.if-is_temp.true)

pub returns-else-is_temp : goal.returns-else-is_temp
returns-else-is_temp c p l ls h = assigned_elsewhere p c.in-Assign.x c.in-Assign.e c.args.place l ls (subst (λ (z : Stmt). LineIs p z l) c.in-Assign.is h) (sym c.is_temp.ensures ∙ c.if-is_temp.false)

pub returns-then-is_temp-2 : goal.returns-then-is_temp-2
returns-then-is_temp-2 c p l ls h = declared_here p c.in-Declare.x c.in-Declare.e c.args.place l ls (subst (λ (z : Stmt). LineIs p z l) c.in-Declare.is h) (sym c.is_temp-in-Declare.ensures ∙ c.if-is_temp-2.true)

pub returns-else-is_temp-2 : goal.returns-else-is_temp-2
returns-else-is_temp-2 c p l ls h = declared_elsewhere p c.in-Declare.x c.in-Declare.e c.args.place l ls (subst (λ (z : Stmt). LineIs p z l) c.in-Declare.is h) (sym c.is_temp-in-Declare.ensures ∙ c.if-is_temp-2.false)

pub returns-in_default : goal.returns-in_default
returns-in_default c p l ls h = sets_nothing p c.args.line c.args.place l ls h (not_setting c.args.line c.in_default.not-Declare c.in_default.not-Assign)
