use Rattle.std.proofs.Common.{◌<◌, ◌∙◌, ap, sym, arith, length, ◌∷◌, List}
use Rattle.go_core.specs.Goroutine as defined
use Rattle.go_state.specs.StateSeen.{frame_of, state_of}
use Rattle.go_state.specs.declared.state.state.Goroutine.{Goroutine}
use Rattle.go_play.proofs.OverLemmas.{below_is, below_written, settled_over}
use Rattle.go_play.proofs.outcomes.over.put_over.Goals as goal

pub returns-clause-value : goal.returns-clause-value
returns-clause-value c = λ ts.
    let xs = c.args.state.now.goroutines.items in
    let x = c.index_mut.result.now in
    let y : Goroutine = record { frames = c.put.new.below; waiting = x.waiting } in
    let counted = c.args.state.now.goroutines.ok.0 in
    let l : c.args.g < length xs = omega (arith, c.requires.goroutine, counted) in (
      below_written ts xs c.args.g y l
          ∙ c.in_ok-put.ensures.value ts
          ∙ ap (λ (fs : List defined.Frame). frame_of ts c.args.f ∷ fs) (sym (below_is ts xs c.args.g x l c.index_mut.ensures.value)),
      λ fs w u. settled_over ts xs c.args.g u y fs w (state_of ts c.args.state.now),
    )
