use Rattle.std.proofs.Common.{ap, arith}
use Rattle.go_core.specs.Assign.{target_operands}
use Rattle.go_core.specs.CoreView.{target_view}
use Rattle.go_core.specs.declared.statement.Target.{Target}
use Rattle.std.proofs.Common.{◌∷◌, []}
use Rattle.go_state.proofs.TodoLemmas.{if_ok}
use Rattle.go_entries.proofs.assign_steps.counts.target_count.Goals as goal

pub returns-in-Place : goal.returns-in-Place
returns-in-Place c = record {
  value = if_ok c.operand_count.result (λ n h ts p g.
      let e = ap (λ (x : Target). target_operands p g (target_view ts x ∷ [])) c.in-Place.is in
      let k = h ts p g in
      omega (arith, e, k)) c.operand_count.ensures.value;
}
