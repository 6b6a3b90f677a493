use Rattle.std.proofs.Common.{◌∙◌, sym, ap, List}
use Rattle.std.specs.Prelude.{Option, Some}
use Rattle.std.specs.Borrow.{Bor}
use Rattle.go_type.specs.Table.{places}
use Rattle.go_core.specs.Calls.{results_of}
use Rattle.go_core.specs.Goroutine.{with_memory}
use Rattle.go_core.specs.Memory.{Value}
use Rattle.go_core.specs.Panics.{ended_with}
use Rattle.go_values.specs.ValuesSeen.{values_of, memory_of}
use Rattle.go_values.specs.declared.values.scalar.Scalar.{Scalar}
use Rattle.go_state.specs.StateSeen.{frame_of, places_of, purpose_of, stacked, vars_of}
use Rattle.go_state.specs.declared.state.frame.Place.{Place}
use Rattle.go_entries.proofs.FrameLemmas.{leaves_as, no_values}
use Rattle.go_entries.proofs.end_steps.ends.returned.Goals as goal

pub returns-in_err-xs : goal.returns-in_err-xs
returns-in_err-xs c =
    let ts = places c.args.c.now.table.now in
    let f = c.args.f.now in
    let fs = stacked (frame_of ts) c.args.below.now.items in
    let m = memory_of ts c.args.m.now in
    record {
      value = λ p q.
          no_values ts c.from_residual.result _ _ _ (λ g. results_of p g (vars_of ts f.results.now) (places_of c.as_slice.result.now) m) _ c.from_residual.ensures.1 (λ g. c.in_err-xs.ensures.value p g q)
          (λ g s h.
          ap (λ (at : List Place). ended_with p g (purpose_of f.purpose) (results_of p g (vars_of ts f.results.now) (places_of at) m) fs (with_memory m s)) (sym c.as_slice.ensures.value)
          ∙ ap (λ (o : Option (List Value)). ended_with p g (purpose_of f.purpose) o fs (with_memory m s)) h);
    }

pub returns : goal.returns
returns c =
    let ts = places c.args.c.now.table.now in
    let f = c.args.f.now in
    let fs = stacked (frame_of ts) c.args.below.now.items in
    let m = memory_of ts c.args.m.now in
    record {
      value = λ p q.
          leaves_as ts c.ended_with.result _ c.args.m.now _ _
          (λ g s.
          ap (λ (at : List Place). ended_with p g (purpose_of f.purpose) (results_of p g (vars_of ts f.results.now) (places_of at) m) fs (with_memory m s)) (sym c.as_slice.ensures.value)
          ∙ ap (λ (o : Option (List Value)). ended_with p g (purpose_of f.purpose) o fs (with_memory m s)) (c.in_ok-xs.ensures.value p g q)
          ∙ ap (λ (xs : List (Bor (List Scalar))). ended_with p g (purpose_of f.purpose) (Some (values_of ts xs)) fs (with_memory m s)) (sym c.as_slice-2.ensures.value))
          (c.ended_with.ensures.value p ts c.args.m.now);
    }
