use Rattle.std.proofs.Common.{◌≡◌, ◌++◌, drop, map}
use Rattle.go_operands.specs.EnvView.{env_of}
use Rattle.go_typing.specs.Scopes.{visible}
use Rattle.go_graph.specs.Cycle.{lists}
use Rattle.go_items.specs.ItemView.{item_view}
use Rattle.go_walk.specs.SetsHas.{number_of}
use Rattle.go_items.specs.Stated.{edges_by}
use Rattle.go_items.proofs.needs.graph.all_edges.Given as goal

-- the edges so far, with those that are left
abbrev pub invariant-loop-item : goal.invariant-loop-item
invariant-loop-item l =
    lists l.edges.items ++ edges_by (λ x. number_of x l.numbers) (visible (env_of l.env)) (map item_view (drop l.item-index l.items))
    ≡ edges_by (λ x. number_of x l.numbers) (visible (env_of l.env)) (map item_view l.items)
