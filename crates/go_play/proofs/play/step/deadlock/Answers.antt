use Rattle.std.proofs.Common.{◌∙◌, ap, ℕ, List}
use Rattle.go_core.specs.Run as running
use Rattle.go_state.specs.StateSeen.{state_of}
use Rattle.go_play.proofs.RunLemmas.{ended_fatal}
use Rattle.go_play.proofs.play.step.deadlock.Goals as goal

pub returns : goal.returns
returns c = record {
  value = λ ts.
      let s = state_of ts c.args.state.now in
      ap (λ (text : List ℕ). ended_fatal text c.in_ok-all.all s) c.in_ok-text.ensures.value
      ∙ ap (λ (n : ℕ). ended_fatal running.deadlock_text n s) c.in_ok-all.ensures.value;
}
