use Rattle.std.proofs.Common.{◌∙◌, sym, ap, List}
use Rattle.std.specs.Borrow.{Bor}
use Rattle.go_type.specs.Table.{places}
use Rattle.go_core.specs.Calls.{resolved}
use Rattle.go_core.specs.CoreView.{program_view}
use Rattle.go_core.specs.Goroutine.{the_dynamic}
use Rattle.go_values.specs.ValuesSeen.{values_of}
use Rattle.go_values.specs.declared.values.scalar.Scalar.{Scalar}
use Rattle.go_state.proofs.TodoLemmas.{if_ok}
use Rattle.go_entries.proofs.entries.resolve.dynamic.Goals as goal

pub returns-in-Some : goal.returns-in-Some
returns-in-Some c =
    let p = program_view c.args.p.now in
    let ts = places c.args.p.now.types in
    record {
      value = if_ok c.dynamic_first.result (λ r h at.
          h at ∙ sym (ap (λ (xs : List (Bor (List Scalar))). resolved p (the_dynamic c.args.name.now c.args.«package».now) at (values_of ts xs)) c.in-Some.ensures.cases.0)) c.dynamic_first.ensures.value;
    }
