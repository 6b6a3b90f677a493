use Rattle.std.proofs.Common.{◌∙◌, ◌∷◌, sym, ap, arith, List}
use Rattle.std.proofs.lemmas.Bool.{ltb-true, ltb-false}
use Rattle.std.proofs.lemmas.List.{length-map}
use Rattle.go_core.specs.Calls.{resolved}
use Rattle.go_core.specs.CoreView.{program_view}
use Rattle.go_core.specs.Goroutine.{the_value}
use Rattle.go_values.specs.ValuesSeen.{scalar_of, value_of, values_of}
use Rattle.go_values.specs.declared.values.scalar.Scalar.{Scalar}
use Rattle.go_values.proofs.Only.{only}
use Rattle.go_state.proofs.TodoLemmas.{if_ok}
use Rattle.go_entries.proofs.CallLemmas.{no_value}
use Rattle.go_entries.proofs.entries.resolve.value_first.Goals as goal
use Rattle.go_entries.proofs.entries.resolve.value_first.Goals.{in_default-via-then-first-lt1, in_default-via-else-first-lt1+else-first-lt2}

pub returns-in-len1 : goal.returns-in-len1
returns-in-len1 c =
    let p = program_view c.args.p.now in
    let e = only c.args.first.now c.x-item.result c.in-len1.len_at_least c.in-len1.len_below c.x-item.is in
    record {
      value = if_ok c.value_in.result (λ r h ts at.
          h ts at ∙ sym (ap (λ (xs : List Scalar). resolved p the_value at (value_of ts xs ∷ values_of ts c.args.vs.now)) e)) c.value_in.ensures.value;
    }

pub returns-in_default : goal.returns-in_default
returns-in_default c =
    let p = program_view c.args.p.now in
    record {
      value = λ ts at.
          no_value p at (values_of ts c.args.vs.now) (value_of ts c.args.first.now) (λ e.
          elim c.in_default.branch [
            | in_default-via-then-first-lt1 w ↦ omega (arith, ltb-true, ltb-false, e, length-map c.args.first.now (scalar_of ts))
            | in_default-via-else-first-lt1+else-first-lt2 w ↦ omega (arith, ltb-true, ltb-false, e, length-map c.args.first.now (scalar_of ts))
          ]);
    }
