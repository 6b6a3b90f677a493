use Rattle.std.proofs.Common.{rules}
use Rattle.go_core.specs.CoreView.{package_var_view}
use Rattle.go_is_sound.proofs.VariableLemmas.{holder_here, holder_later}
use Rattle.go_is_sound.proofs.variables.+has_holder.Goals as goal

pub returns-then-is_holder : goal.returns-then-is_holder
returns-then-is_holder t c = record {
  is = λ _ ts. holder_here ts c.args.vars.now c.in-Some.y.now c.in-Some.others.now (package_var_view ts c.args.x.now) (search rules) (c.is_holder.ensures.is c.if-is_holder.true ts);
}

pub returns-else-is_holder : goal.returns-else-is_holder
returns-else-is_holder t c = record {
  is = λ h ts. holder_later ts c.args.vars.now c.in-Some.y.now c.in-Some.others.now (package_var_view ts c.args.x.now) (search rules) (c.has_holder.ensures.is h ts);
}
