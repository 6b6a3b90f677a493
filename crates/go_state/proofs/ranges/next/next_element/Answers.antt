use Rattle.std.proofs.Common.{◌≡◌, ◌∙◌, ◌+◌, sym, ap, arith, ℕ}
use Rattle.std.specs.Prelude.{suc}
use Rattle.std.proofs.lemmas.Bool.{lt-ltb, le-ltb}
use Rattle.go_type.specs.Table.{places}
use Rattle.go_core.specs.Goroutine.{elements}
use Rattle.go_state.proofs.Steps.{if_true, if_false, produced}
use Rattle.go_state.proofs.ranges.next.next_element.Goals as goal

pub returns-then-next-count : goal.returns-then-next-count
returns-then-next-count c = record { value = λ p g birth h. if_false _ _ _ (le-ltb c.args.next c.args.count (omega (arith, c.if-next-count.true))) }

pub returns : goal.returns
returns c =
    let n = c.args.next in
    let s : suc n ≡ n + 1 = omega arith in
    record {
      value = λ p g birth h.
          if_true _ _ _ (lt-ltb n c.args.count (omega (arith, c.if-next-count.false)))
          ∙ produced p g _ _ _ _ _ _ (sym (c.in_ok-key.ensures.value (places c.args.c.now.table.now) p g)) (sym (c.in_ok-value.ensures.value p g h)) (ap (λ (i : ℕ). elements i c.args.count c.args.base) s);
    }
