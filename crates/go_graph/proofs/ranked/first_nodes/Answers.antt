use Rattle.std.proofs.Common.{arith, ℕ, List, [], ◌∷◌, ◌++◌, ◌∙◌, ap, sym, add-one}
use Rattle.std.specs.List.{range_with_len}
use Rattle.go_graph.proofs.RankLemmas.{count_up}
use Rattle.go_graph.proofs.ranked.first_nodes.Goals as goal

pub loop-node-preserved : goal.loop-node-preserved
loop-node-preserved c = c.in_ok-push.ensures.items ∙ ap (λ (xs : List ℕ). xs ++ c.loop-node.node ∷ []) c.loop-node.invariant ∙ (count_up 0 c.loop-node.node c.loop-node.node (omega arith) ∙ ap (λ (n : ℕ). range_with_len 0 n) (sym (add-one c.loop-node.node)))
