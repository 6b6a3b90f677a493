use Rattle.std.proofs.Common.{◌∙◌, sym, ap, subst}
use Rattle.go_core.specs.Assign as assigning
use Rattle.go_core.specs.Did.{gives}
use Rattle.go_values.specs.ValuesSeen.{value_of}
use Rattle.go_values.specs.OperatorsSeen as seen
use Rattle.go_values.specs.declared.operators.did.Values.{Values}
use Rattle.go_entries.specs.Found.{BaseFound}
use Rattle.go_entries.proofs.FoundLemmas.{base_given, two_given}
use Rattle.go_entries.proofs.assign_steps.find.place_in.Goals as goal

pub returns-in-Nothing : goal.returns-in-Nothing
returns-in-Nothing c = record {
  value = λ ts m others.
      let g = c.args.gives in
      ap (λ (vs : Values). assigning.found_with (gives (seen.values_of ts vs) (seen.changed ts m g.change) g.units) others) c.in-Nothing.is;
}

pub returns-in-One : goal.returns-in-One
returns-in-One c = record {
  value = λ ts m others.
      let g = c.args.gives in
      let n = seen.changed ts m g.change in
      subst (λ (vs : Values). BaseFound c.as_place.result others (assigning.found_with (gives (seen.values_of ts vs) n g.units) others)) (sym c.in-One.is)
      (base_given n g.units others c.as_place.result (value_of ts c.in-One.x.now) (c.as_place.ensures.value ts));
}

pub returns-in-Two : goal.returns-in-Two
returns-in-Two c = record {
  value = λ ts m others.
      let g = c.args.gives in
      ap (λ (vs : Values). assigning.found_with (gives (seen.values_of ts vs) (seen.changed ts m g.change) g.units) others) c.in-Two.is
      ∙ two_given (seen.changed ts m g.change) g.units others (value_of ts c.in-Two.field-0.now) (value_of ts c.in-Two.field-1.now);
}
