use Rattle.std.proofs.Common.{◌∙◌, ◌∷◌, ap, arith, List}
use Rattle.std.specs.Prelude.{None}
use Rattle.go_type.specs.Table.{places}
use Rattle.go_core.specs.CoreView.{program_view}
use Rattle.go_core.specs.Frames.{to_panicking}
use Rattle.go_core.specs.Goroutine as defined
use Rattle.go_core.specs.Goroutine.{called, with_memory}
use Rattle.go_core.specs.Panics.{removed_panicking}
use Rattle.go_values.specs.ValuesSeen.{scalar_of, memory_of}
use Rattle.go_state.specs.StateSeen.{frame_of, stacked}
use Rattle.go_state.specs.declared.state.frame.Frame.{Frame}
use Rattle.go_entries.proofs.FrameLemmas.{put_above, left_with, leaves_as, none_there}
use Rattle.go_entries.proofs.end_steps.ends.panicking_below.Goals as goal

pub returns-in_ok-put-in-Some : goal.returns-in_ok-put-in-Some
returns-in_ok-put-in-Some c =
    let q = program_view c.args.p.now in
    let ts = places c.args.p.now.types in
    let m = memory_of ts c.args.m.now in
    let v = scalar_of ts c.args.x in
    let under = frame_of ts c.in-Some.under in
    let fs = stacked (frame_of ts) c.pop.new.self.items in
    record {
      value =
          left_with ts None c.put.new.below.items c.args.m.now _ (to_panicking v under ∷ fs)
          (c.in_ok-put-in-Some.ensures.value ts ∙ ap (λ (x : defined.Frame). x ∷ fs) (c.to_panicking.ensures.value ts))
          (λ g s. ap (λ (gs : List defined.Frame). removed_panicking q g called v gs (with_memory m s)) (put_above ts _ _ _ c.in-Some.ensures.items));
    }

pub returns-in-None : goal.returns-in-None
returns-in-None c =
    let q = program_view c.args.p.now in
    let ts = places c.args.p.now.types in
    let m = memory_of ts c.args.m.now in
    let v = scalar_of ts c.args.x in
    let counted = c.args.below.now.ok.0 in
    let e = none_there c.args.below.now.items (omega (arith, counted, c.in-None.ensures.cases.0)) in
    record {
      value =
          leaves_as ts c.report_begun.result _ _ _ _ (λ g s. ap (λ (fs : List Frame). removed_panicking q g called v (stacked (frame_of ts) fs) (with_memory m s)) e) c.report_begun.ensures.value;
    }
