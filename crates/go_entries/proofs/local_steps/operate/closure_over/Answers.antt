use Rattle.std.proofs.Common.{ap, sym, ◌∙◌, ◌∷◌, [], ◌+◌, List, map, length}
use Rattle.std.specs.Prelude.{Some, option_map}
use Rattle.go_core.specs.Calls as calls
use Rattle.go_core.specs.CoreView.{id_of}
use Rattle.go_core.specs.Frames.{with_more}
use Rattle.go_core.specs.GoStep as steps
use Rattle.go_core.specs.Memory as core
use Rattle.go_core.specs.Goroutine as defined
use Rattle.go_core.specs.Goroutine.{moved, with_memory}
use Rattle.go_values.specs.ValuesSeen.{memory_of}
use Rattle.go_state.specs.StateSeen.{frame_of, places_of}
use Rattle.go_state.specs.declared.state.frame.Place.{Place}
use Rattle.go_entries.proofs.LocalStepsScalarLemmas.{function_seen}
use Rattle.go_entries.proofs.local_steps.operate.closure_over.Goals as goal

pub returns-in_ok-give_scalar-in-Some : goal.returns-in_ok-give_scalar-in-Some
returns-in_ok-give_scalar-in-Some c = record {
  value = λ p choices free ts m g below s.
      let f = frame_of ts c.args.f.now in
      let s0 = with_memory (memory_of ts m) s in
      let vs = map id_of c.args.captured.now in
      let func = c.args.func.0 in
      ap (λ o. steps.closure_with p choices free g func o f below s0)
      (sym (c.in_ok-found.ensures.value ∙ ap (λ (ps : List Place). calls.bases_of vs (places_of ps)) c.as_slice.ensures.value) ∙ ap (option_map (λ bs. bs.now)) c.in-Some.is)
      ∙ ap (λ (x : core.Scalar). Some (moved g (with_more ((x ∷ []) ∷ []) f ∷ below) (1 + length c.in-Some.bases.now) s0)) (sym (function_seen ts func c.in-Some.bases))
      ∙ ap (λ (x : defined.Frame). Some (moved g (x ∷ below) (1 + length c.in-Some.bases.now) s0)) (sym (c.in_ok-give_scalar-in-Some.ensures.value ts));
}

pub returns-in-None : goal.returns-in-None
returns-in-None c = record {
  value = λ p choices free ts m g below s.
      let f = frame_of ts c.args.f.now in
      let s0 = with_memory (memory_of ts m) s in
      let vs = map id_of c.args.captured.now in
      ap (λ o. steps.closure_with p choices free g c.args.func.0 o f below s0)
      (sym (c.in_ok-found.ensures.value ∙ ap (λ (ps : List Place). calls.bases_of vs (places_of ps)) c.as_slice.ensures.value) ∙ ap (option_map (λ bs. bs.now)) c.in-None.is);
}
