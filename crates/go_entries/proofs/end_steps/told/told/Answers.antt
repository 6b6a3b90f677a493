use Rattle.std.proofs.Common.{◌∙◌, sym, ap, arith, List}
use Rattle.std.proofs.lemmas.Bool.{ltb-true, ltb-false}
use Rattle.std.specs.Borrow.{Bor}
use Rattle.std.proofs.lemmas.List.{length-map}
use Rattle.go_values.specs.ValuesSeen.{value_of, values_of}
use Rattle.go_values.specs.declared.values.scalar.Scalar.{Scalar}
use Rattle.go_slices.proofs.SlicesListLemmas.{nothing, one_value}
use Rattle.go_entries.specs.Told.{told_of}
use Rattle.go_entries.proofs.SignatureLemmas.{not_told}
use Rattle.go_entries.proofs.end_steps.told.told.Goals as goal
use Rattle.go_entries.proofs.end_steps.told.told.Goals.{in_default-via-then-xs-lt1, in_default-via-else-xs-lt1+else-xs-lt2}

pub returns-in-len1 : goal.returns-in-len1
returns-in-len1 c =
    let e = one_value c.args.xs.now nothing c.in-len1.len_at_least c.in-len1.len_below in
    record { value = λ ts. c.text_value.ensures.value ts ∙ sym (ap (λ (vs : List (Bor (List Scalar))). told_of (values_of ts vs)) e) }

pub returns-in_default : goal.returns-in_default
returns-in_default c = record {
  value = λ ts. not_told (values_of ts c.args.xs.now) (λ e.
      elim c.in_default.branch [
        | in_default-via-then-xs-lt1 w ↦ omega (arith, ltb-true, ltb-false, e, length-map c.args.xs.now (λ (v : Bor (List Scalar)). value_of ts v.now))
        | in_default-via-else-xs-lt1+else-xs-lt2 w ↦ omega (arith, ltb-true, ltb-false, e, length-map c.args.xs.now (λ (v : Bor (List Scalar)). value_of ts v.now))
      ]);
}
