use Rattle.std.proofs.Common.{◌∙◌, sym, ap, ℕ, List}
use Rattle.std.specs.Prelude.{Option}
use Rattle.go_type.specs.Table.{places}
use Rattle.go_core.specs.Calls as calls
use Rattle.go_core.specs.CoreView.{program_view, var_of}
use Rattle.go_core.specs.Goroutine.{base_in, with_memory}
use Rattle.go_core.specs.Memory as cell
use Rattle.std.proofs.Common.{◌∷◌, []}
use Rattle.std.specs.Prelude.{Some}
use Rattle.go_values.specs.ValuesSeen.{memory_of}
use Rattle.go_state.specs.StateSeen.{frame_of, places_of}
use Rattle.go_state.specs.declared.state.frame.Place.{Place}
use Rattle.go_state.proofs.GoesLemmas.{same_step}
use Rattle.go_entries.proofs.call_steps.calls.read_receiver.Goals as goal

pub returns-in-None : goal.returns-in-None
returns-in-None c = record {
  value = λ g below s.
      let q = program_view c.args.p.now in
      let ts = places c.args.p.now.types in
      let v = var_of ts c.args.var in
      ap (λ (o : Option ℕ). calls.receiver_read q g v c.args.base o (frame_of ts c.args.f.now) below (with_memory (memory_of ts c.args.m.now) s))
      (sym (c.base_of.ensures.value ∙ ap (λ (at : List Place). base_in v.id (places_of at)) c.as_slice.ensures.value) ∙ c.in-None.is);
}

pub returns-in-Some : goal.returns-in-Some
returns-in-Some c = record {
  value =
      let q = program_view c.args.p.now in
      let ts = places c.args.p.now.types in
      let v = var_of ts c.args.var in
      let base = c.args.base in
      same_step q ts c.read_into.result c.args.f.now c.args.f.now c.args.f.now c.args.m.now c.read_into.new.m
      (λ g x below s. calls.receiver_read q g v base (Some c.in-Some.own_base) x below s)
      (λ g x below s. calls.read_through q g v below s (cell.pointer base ∷ []) x)
      (λ g below s.
      ap (λ (o : Option ℕ). calls.receiver_read q g v base o (frame_of ts c.args.f.now) below (with_memory (memory_of ts c.args.m.now) s))
      (sym (c.base_of.ensures.value ∙ ap (λ (at : List Place). base_in v.id (places_of at)) c.as_slice.ensures.value) ∙ c.in-Some.is))
      (c.read_into.ensures.value c.args.f.now);
}
