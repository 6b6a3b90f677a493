use Rattle.std.proofs.Common.{sym, subst, true, false}
use Rattle.go_type.specs.Levels.{tree_of}
use Rattle.go_values.specs.declared.operators.did.Stop.{Stop}
use Rattle.go_play.specs.Outcomes.{Halted}
use Rattle.go_play.proofs.outcomes.outcome.halt.Goals as goal

pub returns-in-NoStep : goal.returns-in-NoStep
returns-in-NoStep c = record {
  value = λ ts. subst (λ (x : Stop). Halted (tree_of ts c.args.hidden) ts c.args.g x false c.args.f c.args.state.now c.args.state.now) (sym c.in-NoStep.is) tt;
}

pub returns-in_ok-raise-in-Panics : goal.returns-in_ok-raise-in-Panics
returns-in_ok-raise-in-Panics c = record {
  value = λ ts. subst (λ (x : Stop). Halted (tree_of ts c.args.hidden) ts c.args.g x true c.args.f c.args.state.now c.raise.new.state) (sym c.in-Panics.is) (c.in_ok-raise-in-Panics.ensures.value ts);
}
