use Rattle.std.proofs.Common.{◌<◌, ◌≤◌, ◌∙◌, sym, arith, map, length}
use Rattle.std.proofs.lemmas.List.{length-map}
use Rattle.go_state.proofs.ListsLemmas.{drop_here}
use Rattle.go_state.specs.StateSeen.{goroutine_of, state_of}
use Rattle.go_partners.proofs.ReadyLemmas.{moves_step, moves_found, moves_end}
use Rattle.go_partners.proofs.partners.moves.any_moves.Goals as goal

pub goroutines-preserved : goal.goroutines-preserved
goroutines-preserved c = λ ts.
    let xs = c.args.state.now.goroutines.items in
    let counted = c.args.state.now.goroutines.ok.0 in
    let h : c.goroutines.g < length xs = omega (arith, c.goroutines-test.true, c.len-g-end.ensures, counted) in
    let x = c.index.result.now in
    moves_step (state_of ts c.args.state.now) (map (goroutine_of ts) xs) c.goroutines.g (goroutine_of ts x) _
    (drop_here (goroutine_of ts) xs c.goroutines.g x h c.index.ensures)
    (sym (c.able.ensures.value ts) ∙ c.if-able.false) (c.goroutines.invariant ts)

pub returns-then-able : goal.returns-then-able
returns-then-able c = record {
  value = λ ts.
      let xs = c.args.state.now.goroutines.items in
      let counted = c.args.state.now.goroutines.ok.0 in
      let h : c.goroutines.g < length xs = omega (arith, c.goroutines-test.true, c.len-g-end.ensures, counted) in
      let x = c.index.result.now in
      moves_found (state_of ts c.args.state.now) (map (goroutine_of ts) xs) c.goroutines.g (goroutine_of ts x) _
      (drop_here (goroutine_of ts) xs c.goroutines.g x h c.index.ensures)
      (sym (c.able.ensures.value ts) ∙ c.if-able.true) (c.goroutines.invariant ts);
}

pub returns : goal.returns
returns c = record {
  value = λ ts.
      let xs = c.args.state.now.goroutines.items in
      let counted = c.args.state.now.goroutines.ok.0 in
      let h : length (map (goroutine_of ts) xs) ≤ c.goroutines.g = omega (arith, c.goroutines-test.false, c.len-g-end.ensures, counted, length-map xs (goroutine_of ts)) in
      moves_end (state_of ts c.args.state.now) (map (goroutine_of ts) xs) c.goroutines.g _ h (c.goroutines.invariant ts);
}
