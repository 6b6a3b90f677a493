use Rattle.std.proofs.Common.{◌∙◌, ◌∷◌, refl, ap}
use Rattle.std.specs.Prelude.{None}
use Rattle.go_type.specs.Table.{places}
use Rattle.go_core.specs.CoreView.{program_view}
use Rattle.go_core.specs.Frames.{to_panicking}
use Rattle.go_core.specs.Goroutine as defined
use Rattle.go_core.specs.RunPanic.{nil_used, panic_value}
use Rattle.go_state.specs.StateSeen.{frame_of, stacked}
use Rattle.go_entries.proofs.FrameLemmas.{left_with}
use Rattle.go_entries.proofs.end_steps.ends.nothing_invoked.Goals as goal

pub returns : goal.returns
returns c =
    let q = program_view c.args.p.now in
    let ts = places c.args.p.now.types in
    let f = to_panicking (panic_value q.hidden nil_used) (frame_of ts c.args.frame) in
    let fs = stacked (frame_of ts) c.args.below.now.items in
    record {
      value = λ m.
          left_with ts None c.put.new.below.items m _ (f ∷ fs)
          (c.in_ok-put.ensures.value ts ∙ ap (λ (x : defined.Frame). x ∷ fs) c.in_ok-to_nil_used.ensures.value)
          (λ g s. refl);
    }
