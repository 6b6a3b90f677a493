use Rattle.std.proofs.Common.{◌∙◌, sym, ap, arith, List}
use Rattle.std.proofs.lemmas.Bool.{ltb-true, ltb-false}
use Rattle.std.proofs.lemmas.List.{length-map}
use Rattle.go_values.specs.ValuesSeen.{scalar_of, value_of}
use Rattle.go_values.specs.declared.values.scalar.Scalar.{Scalar}
use Rattle.go_values.proofs.Only.{only}
use Rattle.go_entries.specs.Told.{text_of}
use Rattle.go_entries.proofs.SignatureLemmas.{no_text_value}
use Rattle.go_entries.proofs.end_steps.told.text_value.Goals as goal
use Rattle.go_entries.proofs.end_steps.told.text_value.Goals.{in_default-via-then-x-lt1, in_default-via-else-x-lt1+else-x-lt2}

pub returns-in-len1 : goal.returns-in-len1
returns-in-len1 c =
    let e = only c.args.x.now c.x-item.result c.in-len1.len_at_least c.in-len1.len_below c.x-item.is in
    record { value = λ ts. c.text_in.ensures.value ts ∙ sym (ap (λ (xs : List Scalar). text_of (value_of ts xs)) e) }

pub returns-in_default : goal.returns-in_default
returns-in_default c = record {
  value = λ ts. no_text_value (value_of ts c.args.x.now) (λ e.
      elim c.in_default.branch [
        | in_default-via-then-x-lt1 w ↦ omega (arith, ltb-true, ltb-false, e, length-map c.args.x.now (scalar_of ts))
        | in_default-via-else-x-lt1+else-x-lt2 w ↦ omega (arith, ltb-true, ltb-false, e, length-map c.args.x.now (scalar_of ts))
      ]);
}
