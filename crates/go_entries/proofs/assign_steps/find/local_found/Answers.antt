use Rattle.std.proofs.Common.{sym, ap, ◌∙◌, ℕ}
use Rattle.std.specs.Prelude.{Option}
use Rattle.go_core.specs.Assign as assigning
use Rattle.go_values.specs.ValuesSeen.{values_of}
use Rattle.go_state.specs.StateSeen.{places_of}
use Rattle.go_entries.proofs.assign_steps.find.local_found.Goals as goal

pub returns-in-Some : goal.returns-in-Some
returns-in-Some c = record {
  value = λ ts p m. ap (λ (o : Option ℕ). assigning.local_found p (places_of c.args.at.now) m o (values_of ts c.args.vs.now)) (sym c.base_of.ensures.value ∙ c.in-Some.is);
}

pub returns-in-None : goal.returns-in-None
returns-in-None c = record {
  value = λ ts p m. ap (λ (o : Option ℕ). assigning.local_found p (places_of c.args.at.now) m o (values_of ts c.args.vs.now)) (sym c.base_of.ensures.value ∙ c.in-None.is);
}
