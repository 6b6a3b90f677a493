use Rattle.std.proofs.Common.{◌∙◌, sym, ap, ℕ, List}
use Rattle.go_type.specs.Table.{places}
use Rattle.go_core.specs.Calls.{resolved}
use Rattle.go_core.specs.CoreView.{program_view}
use Rattle.go_core.specs.Goroutine.{the_dynamic}
use Rattle.go_values.specs.ValuesSeen.{values_of}
use Rattle.go_state.specs.StateSeen.{places_of}
use Rattle.go_state.proofs.TodoLemmas.{if_ok}
use Rattle.go_entries.specs.EntriesSeen.{called_of}
use Rattle.go_entries.specs.declared.entries.resolve.Called.{Called}
use Rattle.go_entries.proofs.entries.resolve.resolve.Goals as goal

pub returns-in-Function : goal.returns-in-Function
returns-in-Function c =
    let p = program_view c.args.p.now in
    let ts = places c.args.p.now.types in
    record {
      value = if_ok c.function.result (λ r h.
          h ∙ sym (ap (λ (x : Called). resolved p (called_of ts x) (places_of c.args.at.now) (values_of ts c.args.vs.now)) c.in-Function.is)) c.function.ensures.value;
    }

pub returns-in-Method : goal.returns-in-Method
returns-in-Method c =
    let p = program_view c.args.p.now in
    let ts = places c.args.p.now.types in
    record {
      value = if_ok c.named.result (λ r h.
          h (places_of c.args.at.now) ∙ sym (ap (λ (x : Called). resolved p (called_of ts x) (places_of c.args.at.now) (values_of ts c.args.vs.now)) c.in-Method.is)) c.named.ensures.value;
    }

pub returns-in-Value : goal.returns-in-Value
returns-in-Value c =
    let p = program_view c.args.p.now in
    let ts = places c.args.p.now.types in
    record {
      value = if_ok c.value.result (λ r h.
          h ts (places_of c.args.at.now) ∙ sym (ap (λ (x : Called). resolved p (called_of ts x) (places_of c.args.at.now) (values_of ts c.args.vs.now)) c.in-Value.is)) c.value.ensures.value;
    }

pub returns-in-Dynamic : goal.returns-in-Dynamic
returns-in-Dynamic c =
    let p = program_view c.args.p.now in
    let ts = places c.args.p.now.types in
    let at = places_of c.args.at.now in
    let vs = values_of ts c.args.vs.now in
    record {
      value = if_ok c.dynamic.result (λ r h.
          h at
          ∙ ap (λ (n : List ℕ). resolved p (the_dynamic n c.as_bytes-in-Dynamic.result.now) at vs) c.as_bytes.ensures
          ∙ ap (λ (n : List ℕ). resolved p (the_dynamic c.in-Dynamic.name.now n) at vs) c.as_bytes-in-Dynamic.ensures
          ∙ sym (ap (λ (x : Called). resolved p (called_of ts x) at vs) c.in-Dynamic.is)) c.dynamic.ensures.value;
    }
