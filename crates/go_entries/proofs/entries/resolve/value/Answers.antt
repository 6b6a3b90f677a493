use Rattle.std.proofs.Common.{◌∙◌, sym, ap, List}
use Rattle.std.specs.Borrow.{Bor}
use Rattle.go_core.specs.Calls.{resolved}
use Rattle.go_core.specs.CoreView.{program_view}
use Rattle.go_core.specs.Goroutine.{the_value}
use Rattle.go_values.specs.ValuesSeen.{values_of}
use Rattle.go_values.specs.declared.values.scalar.Scalar.{Scalar}
use Rattle.go_state.proofs.TodoLemmas.{if_ok}
use Rattle.go_entries.proofs.entries.resolve.value.Goals as goal

pub returns-in-Some : goal.returns-in-Some
returns-in-Some c =
    let p = program_view c.args.p.now in
    record {
      value = if_ok c.value_first.result (λ r h ts at.
          h ts at ∙ sym (ap (λ (xs : List (Bor (List Scalar))). resolved p the_value at (values_of ts xs)) c.in-Some.ensures.cases.0)) c.value_first.ensures.value;
    }
