use Rattle.std.proofs.Common.{sym, ap, subst, ◌∙◌}
use Rattle.std.specs.Prelude.{Result}
use Rattle.go_core.specs.Assign as assigning
use Rattle.go_core.specs.Did as did
use Rattle.go_values.specs.ValuesSeen.{values_of}
use Rattle.go_values.specs.OperatorsSeen.{Does}
use Rattle.go_values.specs.declared.operators.did.Gives.{Gives}
use Rattle.go_values.specs.declared.operators.did.Stop.{Stop}
use Rattle.go_entries.specs.Found.{Misses}
use Rattle.go_entries.proofs.FoundLemmas.{stops_miss, missed_place}
use Rattle.go_entries.proofs.assign_steps.find.placed.Goals as goal

pub returns-in_err-gives : goal.returns-in_err-gives
returns-in_err-gives c = record {
  value = λ ts m d h.
      let vs = values_of ts c.args.others.now in
      missed_place ts c.from_residual.result c.in_err-gives.field-0.0 (assigning.found_with d vs) c.from_residual.ensures.1
      (stops_miss c.in_err-gives.field-0.0 d vs (subst (λ (r : Result Gives Stop). Does ts m r d) c.in_err-gives.was h));
}

pub returns-in_err-base : goal.returns-in_err-base
returns-in_err-base c = record {
  value = λ ts m d h.
      let vs = values_of ts c.args.others.now in
      let e = subst (λ (r : Result Gives Stop). Does ts m r d) c.in_ok-gives.was h in
      missed_place ts c.from_residual-in_err-base.result c.in_err-base.field-0.0 (assigning.found_with d vs) c.from_residual-in_err-base.ensures.1
      (subst (λ (x : did.Did). Misses c.in_err-base.field-0.0 (assigning.found_with x vs)) (sym e) (c.in_err-base.ensures.value ts m vs));
}

pub returns : goal.returns
returns c = record {
  value = λ ts m d h.
      let vs = values_of ts c.args.others.now in
      let e = subst (λ (r : Result Gives Stop). Does ts m r d) c.in_ok-gives.was h in
      ap (λ (x : did.Did). assigning.found_with x vs) e ∙ c.in_ok-base.ensures.value ts m vs;
}
