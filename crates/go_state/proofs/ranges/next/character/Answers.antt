use Rattle.std.proofs.Common.{◌∙◌, sym, ap, drop, ℕ, List}
use Rattle.go_core.specs.Goroutine.{characters}
use Rattle.go_state.proofs.Steps.{produced}
use Rattle.go_state.proofs.ranges.next.character.Goals as goal

pub returns : goal.returns
returns c = record {
  value = λ ts p g.
      produced p g _ _ _ _ _ _ (sym (c.in_ok-key.ensures.value ts p g)) (sym (c.in_ok-value.ensures.value ts p g))
      (ap (λ (n : ℕ). characters n (drop c.args.rune.width c.args.left.now)) (sym c.in_ok-following.ensures.value)
      ∙ ap (λ (bs : List ℕ). characters c.in_ok-following.following bs) (sym c.bytes_after.ensures.value));
}
