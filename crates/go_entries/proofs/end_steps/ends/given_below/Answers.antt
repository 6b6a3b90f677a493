use Rattle.std.proofs.Common.{◌∙◌, ◌∷◌, [], ap, arith, List}
use Rattle.std.specs.Prelude.{None}
use Rattle.go_core.specs.Frames.{with_more}
use Rattle.go_core.specs.Goroutine as defined
use Rattle.go_core.specs.Goroutine.{with_memory}
use Rattle.go_core.specs.Panics.{given_below}
use Rattle.go_values.specs.ValuesSeen.{values_of, memory_of}
use Rattle.go_state.specs.StateSeen.{frame_of, stacked}
use Rattle.go_state.specs.declared.state.frame.Frame.{Frame}
use Rattle.go_entries.proofs.FrameLemmas.{put_above, left_with, none_there, none_left}
use Rattle.go_entries.proofs.end_steps.ends.given_below.Goals as goal

pub returns-in_ok-put-in-Some : goal.returns-in_ok-put-in-Some
returns-in_ok-put-in-Some c = record {
  value = λ p ts m.
      let vs = values_of ts c.args.xs.now in
      let under = frame_of ts c.in-Some.under in
      let fs = stacked (frame_of ts) c.pop.new.self.items in
      left_with ts None c.put.new.below.items m _ (with_more vs under ∷ fs)
      (c.in_ok-put-in-Some.ensures.value ts ∙ ap (λ (x : defined.Frame). x ∷ fs) (c.in_ok-f-in-Some.ensures.value ts))
      (λ g s. ap (λ (gs : List defined.Frame). given_below p g vs gs (with_memory (memory_of ts m) s)) (put_above ts _ _ _ c.in-Some.ensures.items));
}

pub returns-in-None : goal.returns-in-None
returns-in-None c =
    let counted = c.args.below.now.ok.0 in
    let e = none_there c.args.below.now.items (omega (arith, counted, c.in-None.ensures.cases.0)) in
    record {
      value = λ p ts m.
          left_with ts None c.pop.new.self.items m _ [] (ap (stacked (frame_of ts)) (none_left c.args.below.now.items _ e c.in-None.ensures.items))
          (λ g s. ap (λ (fs : List Frame). given_below p g (values_of ts c.args.xs.now) (stacked (frame_of ts) fs) (with_memory (memory_of ts m) s)) e);
    }
