use Rattle.std.proofs.Common.{rules, ℕ, get_or}
use Rattle.std.proofs.lemmas.List.Sorted.{IsNonDecreasingBy-from_sort_by_key}
use Rattle.go_graph.proofs.ranked.in_order.Goals as goal

pub returns-clause-sorted : goal.returns-clause-sorted
returns-clause-sorted c = IsNonDecreasingBy-from_sort_by_key (λ (i : ℕ). get_or c.args.numbers.now i 0) _ c.in_ok-sort_by_key.ensures.sorted (λ a r q k. search rules)
