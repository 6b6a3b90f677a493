use Rattle.std.proofs.Common.{arith, ◌≡◌, ◌∙◌, ℕ, List, Bool, ap, sym, subst, length, get_or, false}
use Rattle.std.specs.Prelude.{IsTrue, ◌↔◌}
use Rattle.go_graph.specs.Cycle.{lists, IsOnCycle}
use Rattle.go_graph.specs.Search.{MarksReached, rank}
use Rattle.go_graph.proofs.ListLemmas.{length_lists}
use Rattle.go_graph.proofs.CycleLemmas.{in_graph}
use Rattle.go_graph.proofs.StaysLemmas.{length_more, more, more_numbers}
use Rattle.go_graph.proofs.RankLemmas.{IsRank, told_here, everywhere, descends_by_ranks}
use Rattle.go_graph.proofs.plain.ranked_by_search.Goals as goal

pub loop-node-preserved : goal.loop-node-preserved
loop-node-preserved c =
    let es = lists c.args.edges.now in
    let node = c.loop-node.node in
    let told = c.loop-node.is_lasting.items in
    let numbers = c.loop-node.numbers.items in
    let marks = c.in_ok-marks.marks.items in
    let reached : MarksReached es node marks = c.in_ok-marks.ensures.value in
    let found = c.mark_at-is_found.result in
    let found_is : found ≡ get_or marks node false = c.mark_at-is_found.ensures.value ∙ ap (λ (bs : List Bool). get_or bs node false) c.as_slice.ensures.value in
    let number = c.rank_of-number.result in
    let number_is : number ≡ rank marks node = c.rank_of-number.ensures.value ∙ ap (λ (bs : List Bool). rank bs node) c.as_slice-in-loop-node.ensures.value in
    let here = told_here es node marks found reached found_is in
    record {
      told = ap length c.in_ok-push.ensures.items ∙ length_more told found node c.loop-node.invariant.told;
      numbered = ap length c.in_ok-push-2.ensures.items ∙ length_more numbers number node c.loop-node.invariant.numbered;
      exact = λ i h. subst (λ (bs : List Bool). IsTrue (get_or bs i false) ↔ IsOnCycle es i) (sym c.in_ok-push.ensures.items)
          (more (IsOnCycle es) told found node c.loop-node.invariant.told c.loop-node.invariant.exact here i h);
      ranks = λ i h. subst (λ (xs : List ℕ). IsRank es i (get_or xs i 0)) (sym c.in_ok-push-2.ensures.items)
          (more_numbers (IsRank es) numbers number node c.loop-node.invariant.numbered c.loop-node.invariant.ranks (marks, reached, number_is) i h);
    }

pub returns-clause-exact : goal.returns-clause-exact
returns-clause-exact c =
    let es = lists c.args.edges.now in
    let count = length_lists c.args.edges.now in
    everywhere (IsOnCycle es) c.loop-node.is_lasting.items (λ i h. c.loop-node.invariant.exact i (omega (arith, h, c.loop-node.invariant.told)))
    (λ i p. let within = in_graph es i p.0 p.2 in omega (arith, within, c.loop-node.invariant.told, count, c.loop-node-test.false))

pub returns-clause-falls : goal.returns-clause-falls
returns-clause-falls c =
    let es = lists c.args.edges.now in
    let count = length_lists c.args.edges.now in
    let exact = everywhere (IsOnCycle es) c.loop-node.is_lasting.items (λ i h. c.loop-node.invariant.exact i (omega (arith, h, c.loop-node.invariant.told)))
    (λ i p. let within = in_graph es i p.0 p.2 in omega (arith, within, c.loop-node.invariant.told, count, c.loop-node-test.false)) in
    descends_by_ranks es c.loop-node.is_lasting.items c.loop-node.numbers.items exact (omega (arith, c.loop-node.invariant.numbered, count, c.loop-node-test.false, c.loop-node.auto.node-end))
    (λ i h. c.loop-node.invariant.ranks i (omega (arith, h, count, c.loop-node-test.false)))
