use Rattle.std.proofs.Common.{◌∙◌, ◌∷◌, [], sym, ap}
use Rattle.std.specs.Prelude.{Some}
use Rattle.go_core.specs.Frames.{with_more}
use Rattle.go_core.specs.Goroutine.{moved}
use Rattle.go_core.specs.Memory as core
use Rattle.go_core.specs.Panics as defining
use Rattle.go_slices.proofs.SlicesScalarLemmas.{nil_seen}
use Rattle.go_state.specs.StateSeen.{frame_of, purpose_of, stacked}
use Rattle.go_state.specs.declared.state.frame.Purpose.{Purpose}
use Rattle.go_state.proofs.TodoLemmas.{if_ok}
use Rattle.go_entries.proofs.call_steps.panics.recovered.Goals as goal

pub returns-in-Deferred : goal.returns-in-Deferred
returns-in-Deferred c = record {
  value = if_ok c.stop_panic_below.result (λ v h ts p g x s.
      ap (λ (u : Purpose). defining.recovered p g (purpose_of u) x (stacked (frame_of ts) c.args.below.now.items) s) c.in-Deferred.is ∙ h ts p g x s) c.stop_panic_below.ensures.value;
}

pub returns-in-Called : goal.returns-in-Called
returns-in-Called c = record {
  value = λ ts p g x s.
      let fs = stacked (frame_of ts) c.args.below.now.items in
      ap (λ (u : Purpose). defining.recovered p g (purpose_of u) x fs s) c.in-Called.is
      ∙ ap (λ (v : core.Scalar). Some (moved g (with_more ((v ∷ []) ∷ []) x ∷ fs) 1 s)) (sym (nil_seen ts));
}

pub returns-in-Reporting : goal.returns-in-Reporting
returns-in-Reporting c = record {
  value = λ ts p g x s.
      let fs = stacked (frame_of ts) c.args.below.now.items in
      ap (λ (u : Purpose). defining.recovered p g (purpose_of u) x fs s) c.in-Reporting.is
      ∙ ap (λ (v : core.Scalar). Some (moved g (with_more ((v ∷ []) ∷ []) x ∷ fs) 1 s)) (sym (nil_seen ts));
}
