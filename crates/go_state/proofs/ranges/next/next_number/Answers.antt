use Rattle.std.proofs.Common.{◌≡◌, ◌∙◌, ◌+◌, sym, ap, arith, ℕ}
use Rattle.std.specs.Prelude.{suc}
use Rattle.std.proofs.lemmas.Bool.{lt-ltb, le-ltb}
use Rattle.go_core.specs.Goroutine.{numbers}
use Rattle.go_state.proofs.Steps.{if_true, if_false, produced}
use Rattle.go_state.proofs.ranges.next.next_number.Goals as goal

pub returns-then-next-count : goal.returns-then-next-count
returns-then-next-count c = record { value = λ ts p g t birth m. if_false _ _ _ (le-ltb c.args.next c.args.count (omega (arith, c.if-next-count.true))) }

pub returns : goal.returns
returns c =
    let n = c.args.next in
    let s : suc n ≡ n + 1 = omega arith in
    record {
      value = λ ts p g t birth m.
          let k = sym (c.in_ok-key.ensures.value ts p g) in
          if_true _ _ _ (lt-ltb n c.args.count (omega (arith, c.if-next-count.false))) ∙ produced p g _ _ _ _ _ _ k k (ap (λ (i : ℕ). numbers i c.args.count) s);
    }
