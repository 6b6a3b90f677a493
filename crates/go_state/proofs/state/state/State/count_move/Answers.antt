use Rattle.std.proofs.Common.{subst, ◌<◌, ℕ}
use Rattle.go_state.specs.StateSeen.{state_of}
use Rattle.go_state.proofs.MovedLemmas.{able_again, same_state}
use Rattle.go_state.proofs.state.state.State.count_move.Goals as goal

pub returns : goal.returns
returns c = record {
  value = λ ts.
      same_state (state_of ts c.args.self.now) _ _ _ _
      (able_again ts c.args.self.now.goroutines.items c.args.goroutine c.index_mut-moved.result.now (subst (λ (n : ℕ). c.args.goroutine < n) c.args.self.now.goroutines.ok.0 c.requires.goroutine) c.index_mut-moved.ensures.value)
      c.in_ok-all.ensures.value;
}
