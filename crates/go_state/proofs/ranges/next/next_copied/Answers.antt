use Rattle.std.proofs.Common.{◌≡◌, ◌∙◌, sym, ap, arith, drop, length, take, ℕ}
use Rattle.std.specs.Prelude.{suc}
use Rattle.std.specs.List.{take-map, drop-map}
use Rattle.std.proofs.lemmas.List.{length-map}
use Rattle.go_type.specs.Levels.{tree_of}
use Rattle.go_type.specs.Table.{places}
use Rattle.go_core.specs.Control.{element_size}
use Rattle.go_core.specs.Goroutine.{copied}
use Rattle.go_core.specs.Memory.{Value}
use Rattle.go_values.specs.ValuesSeen.{scalar_of, value_of}
use Rattle.go_state.proofs.Steps.{copied_next, produced}
use Rattle.go_state.proofs.ranges.next.next_copied.Goals as goal

pub returns : goal.returns
returns c =
    let ts = places c.args.c.now.table.now in
    let t = tree_of ts c.args.t in
    let left = c.args.left.now in
    let xs = value_of ts left in
    let i = c.args.next in
    let one = c.in_ok-one.one in
    let s : suc i ≡ c.in_ok-following.following = omega (arith, c.in_ok-following.ensures.value) in
    let some : ¬ (length xs ≡ 0) = λ e. c.if-left-eq0.false (sym (length-map left (scalar_of ts)) ∙ e) in
    record {
      value = λ p g birth m q.
          let size = sym (c.in_ok-one.ensures.value p g q) in
          copied_next p g t birth i xs m some
          ∙ produced p g _ _ _ _ _ _ (sym (c.in_ok-key.ensures.value ts p g))
          (ap (λ (k : ℕ). take k xs) size ∙ take-map (scalar_of ts) one left ∙ ap (value_of ts) (sym c.front.ensures.value))
          (ap (λ (k : ℕ). copied k (drop (element_size p g t) xs)) s
          ∙ ap (λ (ys : Value). copied c.in_ok-following.following ys)
          (ap (λ (k : ℕ). drop k xs) size ∙ drop-map (scalar_of ts) one left ∙ ap (value_of ts) (sym c.after.ensures.value)));
    }
