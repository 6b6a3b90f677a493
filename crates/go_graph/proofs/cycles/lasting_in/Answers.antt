use Rattle.std.proofs.Common.{ℕ, List, subst, get_or}
use Rattle.std.specs.List.Sorted.{IsNonDecreasingBy}
use Rattle.go_graph.specs.Cycle.{lists}
use Rattle.go_graph.proofs.RankLemmas.{ordered}
use Rattle.go_graph.proofs.cycles.lasting_in.Goals as goal

pub returns-clause-order : goal.returns-clause-order
returns-clause-order c =
    let nodes = c.in_ok-nodes.nodes.items in
    let found = c.in_ok-found.found in
    ordered (lists c.args.edges.now) found.is_lasting.items found.numbers.items nodes c.in_ok-found.ensures.exact c.in_ok-found.ensures.falls
    (subst (λ (xs : List ℕ). IsNonDecreasingBy (λ (i : ℕ). get_or xs i 0) nodes) c.as_slice.ensures.value c.in_ok-nodes.ensures.sorted)
