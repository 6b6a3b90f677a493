use Rattle.std.proofs.Common.{◌∙◌, ◌∷◌, [], sym, ap}
use Rattle.std.specs.Prelude.{Some}
use Rattle.go_core.specs.Frames.{with_more}
use Rattle.go_core.specs.Goroutine.{moved}
use Rattle.go_core.specs.Memory as core
use Rattle.go_core.specs.Panics as defining
use Rattle.go_slices.proofs.SlicesScalarLemmas.{nil_seen}
use Rattle.go_state.specs.StateSeen.{frame_of, mode_of}
use Rattle.go_state.specs.declared.state.frame.Mode.{Mode}
use Rattle.go_entries.proofs.call_steps.panics.stop_panic.Goals as goal

pub returns-in-Panicking : goal.returns-in-Panicking
returns-in-Panicking c = record {
  value = λ ts p g x below s. ap (λ (u : Mode). defining.recovered_from p g (mode_of ts u) x (frame_of ts c.args.f.now) below s) c.in-Panicking.is;
}

pub returns-in-Normal : goal.returns-in-Normal
returns-in-Normal c = record {
  value = λ ts p g x below s.
      let f = frame_of ts c.args.f.now in
      ap (λ (u : Mode). defining.recovered_from p g (mode_of ts u) x f below s) c.in-Normal.is
      ∙ ap (λ (v : core.Scalar). Some (moved g (with_more ((v ∷ []) ∷ []) x ∷ f ∷ below) 1 s)) (sym (nil_seen ts));
}

pub returns-in-Returning : goal.returns-in-Returning
returns-in-Returning c = record {
  value = λ ts p g x below s.
      let f = frame_of ts c.args.f.now in
      ap (λ (u : Mode). defining.recovered_from p g (mode_of ts u) x f below s) c.in-Returning.is
      ∙ ap (λ (v : core.Scalar). Some (moved g (with_more ((v ∷ []) ∷ []) x ∷ f ∷ below) 1 s)) (sym (nil_seen ts));
}
