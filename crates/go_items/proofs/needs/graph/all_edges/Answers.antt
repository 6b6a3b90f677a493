use Rattle.std.proofs.Common.{◌∙◌, ◌+◌, sym, ap, ℕ, List, ◌++◌, drop, map}
use Rattle.std.specs.Prelude.{Vec}
use Rattle.std.specs.declared.alloc.Global.{Global}
use Rattle.go_graph.specs.Cycle.{lists}
use Rattle.go_items.specs.declared.items.item.Item.{Item}
use Rattle.go_items.specs.ItemView.{item_view}
use Rattle.go_operands.specs.EnvView.{env_of}
use Rattle.go_walk.specs.SetsHas.{number_of}
use Rattle.go_typing.specs.Scopes.{visible}
use Rattle.go_items.specs.Stated.{stated, targets_by, edges_by}
use Rattle.go_items.proofs.EdgeLemmas.{one_more_list}
use Rattle.go_items.proofs.NeedsSteps.{next_at}
use Rattle.go_items.proofs.needs.graph.all_edges.Goals as goal

pub loop-item-preserved : goal.loop-item-preserved
loop-item-preserved c =
    let f = λ (x : List ℕ). number_of x c.args.numbers.now in
    let ss = visible (env_of c.args.env.now) in
    let items = c.args.items.now in
    let edges = c.loop-item.edges.items in
    let item = c.item-item.result in
    let rest = edges_by f ss (map item_view (drop (c.loop-item.item-index + 1) items)) in
    ap (λ (vs : List (Vec ℕ Global)). lists vs ++ rest) c.in_ok-push.ensures.items
    ∙ one_more_list edges c.in_ok-own.own (targets_by f (stated ss (item_view item))) rest c.in_ok-own.ensures.value
    ∙ ap (λ (is : List Item). lists edges ++ edges_by f ss (map item_view is)) (sym (next_at items c.loop-item.item-index item c.loop-item-test.true c.item-item.is))
    ∙ c.loop-item.invariant
