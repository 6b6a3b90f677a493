use Rattle.std.proofs.Common.{ap, sym, ◌∙◌, ◌∷◌, [], List}
use Rattle.std.specs.Prelude.{Some}
use Rattle.go_core.specs.Frames.{with_more}
use Rattle.go_core.specs.GoStep as steps
use Rattle.go_core.specs.Memory as core
use Rattle.go_values.proofs.ScalarLemmas.{pointer_seen}
use Rattle.go_core.specs.Goroutine as defined
use Rattle.go_core.specs.Goroutine.{base_in, moved, with_memory}
use Rattle.go_values.specs.ValuesSeen.{memory_of}
use Rattle.go_state.specs.StateSeen.{frame_of, places_of}
use Rattle.go_state.specs.declared.state.frame.Place.{Place}
use Rattle.go_entries.proofs.local_steps.operate.local_step.Goals as goal

pub returns-in_ok-give_scalar-in-Some : goal.returns-in_ok-give_scalar-in-Some
returns-in_ok-give_scalar-in-Some c = record {
  value = λ p choices free ts m g below s.
      let f = frame_of ts c.args.f.now in
      let s0 = with_memory (memory_of ts m) s in
      let v = c.args.var.0 in
      ap (λ o. steps.local_step p choices free g o f below s0)
      (sym (c.base_of.ensures.value ∙ ap (λ (ps : List Place). base_in v (places_of ps)) c.as_slice.ensures.value) ∙ c.in-Some.is)
      ∙ ap (λ (x : core.Scalar). Some (moved g (with_more ((x ∷ []) ∷ []) f ∷ below) 1 s0)) (sym (pointer_seen ts c.in-Some.base))
      ∙ ap (λ (x : defined.Frame). Some (moved g (x ∷ below) 1 s0)) (sym (c.in_ok-give_scalar-in-Some.ensures.value ts));
}

pub returns-in-None : goal.returns-in-None
returns-in-None c = record {
  value = λ p choices free ts m g below s.
      let f = frame_of ts c.args.f.now in
      let s0 = with_memory (memory_of ts m) s in
      let v = c.args.var.0 in
      ap (λ o. steps.local_step p choices free g o f below s0)
      (sym (c.base_of.ensures.value ∙ ap (λ (ps : List Place). base_in v (places_of ps)) c.as_slice.ensures.value) ∙ c.in-None.is);
}
