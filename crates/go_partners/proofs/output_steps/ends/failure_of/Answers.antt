use Rattle.std.proofs.Common.{sym, subst, arith, List}
use Rattle.std.proofs.lemmas.Bool.{ltb-true, ltb-false}
use Rattle.std.proofs.lemmas.List.{length-map}
use Rattle.go_core.specs.GoStep as steps
use Rattle.go_values.proofs.Only.{only}
use Rattle.go_values.specs.ValuesSeen.{scalar_of, value_of}
use Rattle.go_values.specs.declared.values.scalar.Scalar.{Scalar}
use Rattle.go_state.specs.StateSeen.{frame_of}
use Rattle.go_partners.specs.Tells.{Tells}
use Rattle.go_partners.proofs.TellLemmas.{not_one_failed}
use Rattle.go_partners.proofs.output_steps.ends.failure_of.Goals as goal
use Rattle.go_partners.proofs.output_steps.ends.failure_of.Goals.{in_default-via-then-cells-lt1, in_default-via-else-cells-lt1+else-cells-lt2}

pub returns-in-len1 : goal.returns-in-len1
returns-in-len1 c =
    let e = only c.args.cells.now c.x-item.result c.in-len1.len_at_least c.in-len1.len_below c.x-item.is in
    record {
      value = λ p choices free ts f.
          subst (λ (xs : List Scalar). Tells ts c.failure_in.result f (λ g below s. steps.failed_fatally p choices free g below s (value_of ts xs) (frame_of ts f))) (sym e)
          (c.failure_in.ensures.value p choices free ts f);
    }

pub returns-in_default : goal.returns-in_default
returns-in_default c = record {
  value = λ p choices free ts f g below s.
      not_one_failed p choices free g below s (frame_of ts f) (value_of ts c.args.cells.now) (λ e.
      elim c.in_default.branch [
        | in_default-via-then-cells-lt1 w ↦ omega (arith, ltb-true, ltb-false, e, length-map c.args.cells.now (scalar_of ts))
        | in_default-via-else-cells-lt1+else-cells-lt2 w ↦ omega (arith, ltb-true, ltb-false, e, length-map c.args.cells.now (scalar_of ts))
      ]);
}
