use Rattle.std.proofs.Common.{◌∙◌, ◌∷◌, [], sym, ap, arith, List}
use Rattle.std.specs.Prelude.{Some}
use Rattle.go_core.specs.Frames.{with_more}
use Rattle.go_core.specs.Goroutine as defined
use Rattle.go_core.specs.Goroutine.{deferred, moved}
use Rattle.go_core.specs.Memory as core
use Rattle.go_core.specs.Panics as defining
use Rattle.go_slices.proofs.SlicesScalarLemmas.{nil_seen}
use Rattle.go_values.specs.ValuesSeen.{scalar_of}
use Rattle.go_values.specs.declared.values.scalar.Scalar.TheVariants as held
use Rattle.go_state.specs.StateSeen.{frame_of, stacked}
use Rattle.go_state.specs.declared.state.frame.Frame.{Frame}
use Rattle.go_entries.proofs.FrameLemmas.{put_above, none_there, none_left}
use Rattle.go_entries.proofs.call_steps.panics.stop_panic_below.Goals as goal

pub returns-in_ok-put-in-Some : goal.returns-in_ok-put-in-Some
returns-in_ok-put-in-Some c = record {
  value = λ ts p g x s.
      let fs = stacked (frame_of ts) c.pop.new.self.items in
      let y = with_more ((scalar_of ts c.stop_panic-x.result ∷ []) ∷ []) x in
      ap (λ (gs : List defined.Frame). defining.recovered p g deferred x gs s) (put_above ts _ _ _ c.in-Some.ensures.items)
      ∙ c.stop_panic-x.ensures.value ts p g x fs s
      ∙ ap (λ (gs : List defined.Frame). Some (moved g (y ∷ gs) 1 s)) (sym (c.in_ok-put-in-Some.ensures.value ts));
}

pub returns-in-None : goal.returns-in-None
returns-in-None c =
    let counted = c.args.below.now.ok.0 in
    let e = none_there c.args.below.now.items (omega (arith, counted, c.in-None.ensures.cases.0)) in
    record {
      value = λ ts p g x s.
          let n = none_left c.args.below.now.items c.pop.new.self.items e c.in-None.ensures.items in
          ap (λ (fs : List Frame). defining.recovered p g deferred x (stacked (frame_of ts) fs) s) e
          ∙ ap (λ (v : core.Scalar). Some (moved g (with_more ((v ∷ []) ∷ []) x ∷ []) 1 s)) (sym (nil_seen ts))
          ∙ ap (λ (fs : List Frame). Some (moved g (with_more ((scalar_of ts held.Nil ∷ []) ∷ []) x ∷ stacked (frame_of ts) fs) 1 s)) (sym n);
    }
