use Rattle.std.proofs.Common.{◌<◌, subst, ℕ}
use Rattle.go_state.specs.StateSeen.{state_of}
use Rattle.go_state.proofs.MovedLemmas.{same_state}
use Rattle.go_play.proofs.OverLemmas.{waits_there}
use Rattle.go_play.proofs.outcomes.over.wait_for.Goals as goal

pub returns : goal.returns
returns c = record {
  value = λ ts.
      same_state (state_of ts c.args.state.now) _ _ _ _
      (waits_there ts c.args.state.now.goroutines.items c.args.g c.index_mut-goroutine.result.now c.args.waiting (subst (λ (n : ℕ). c.args.g < n) c.args.state.now.goroutines.ok.0 c.requires.goroutine) c.index_mut-goroutine.ensures.value)
      c.in_ok-all.ensures.value;
}
