use Rattle.std.proofs.Common.{◌∙◌, sym, ap, List}
use Rattle.std.specs.Borrow.{Bor}
use Rattle.go_type.specs.Table.{places}
use Rattle.go_core.specs.Calls as calls
use Rattle.go_core.specs.CoreView.{program_view}
use Rattle.go_values.specs.ValuesSeen.{values_of}
use Rattle.go_values.specs.declared.values.scalar.Scalar.{Scalar}
use Rattle.go_state.specs.StateSeen.{frame_of, places_of}
use Rattle.go_state.specs.declared.state.frame.Place.{Place}
use Rattle.go_entries.specs.EntriesSeen.{called_of}
use Rattle.go_entries.proofs.CallStepsEnterLemmas.{missed_callee}
use Rattle.go_entries.proofs.call_steps.calls.take_callee.Goals as goal

pub returns-in_err-vs : goal.returns-in_err-vs
returns-in_err-vs c =
    let q = program_view c.args.p.now in
    let ts = places c.args.p.now.types in
    record { value = missed_callee q ts c.from_residual.result _ _ _ _ c.from_residual.ensures.1 (c.in_err-vs.ensures.value ts) }

pub returns : goal.returns
returns c =
    let q = program_view c.args.p.now in
    let ts = places c.args.p.now.types in
    let called = called_of ts c.args.called in
    let f = c.operands.new.f in
    let vs = c.in_ok-vs.vs.items in
    let found =
    c.in_ok-found.ensures.value
    ∙ ap (λ (at : List Place). calls.resolved q called (places_of at) (values_of ts c.as_slice-2.result.now)) c.as_slice.ensures.value
    ∙ ap (λ (xs : List (Bor (List Scalar))). calls.resolved q called (places_of f.places.items) (values_of ts xs)) c.as_slice-2.ensures.value in
    record {
      value = λ k.
          c.in_ok-vs.ensures.value ts (λ us x. k (calls.resolved q called x.places us) x)
          ∙ ap (λ (r : calls.Resolved). k r (frame_of ts f)) (sym found);
    }
