use Rattle.std.proofs.Common.{◌≡◌, ◌∙◌, sym, ap, ℕ, List, length, map}
use Rattle.std.specs.Prelude.{Vec, ◌↔◌}
use Rattle.std.specs.declared.alloc.Global.{Global}
use Rattle.std.proofs.lemmas.Result.{IfOk-weaker}
use Rattle.go_graph.specs.Cycle.{lists, Edge}
use Rattle.go_items.specs.ItemView.{item_view}
use Rattle.go_operands.specs.EnvView.{env_of}
use Rattle.go_walk.specs.SetsHas.{number_of}
use Rattle.go_typing.specs.Scopes.{visible}
use Rattle.go_items.specs.Leads.{Leads}
use Rattle.go_items.specs.Stated.{edges_by}
use Rattle.go_items.proofs.EdgeLemmas.{edges_exact, edges_length, count_lists, count_items}
use Rattle.go_items.proofs.needs.graph.graph_of.Goals as goal

pub returns-clause-count : goal.returns-clause-count
returns-clause-count c =
    let f = λ (x : List ℕ). number_of x c.in_ok-numbers.numbers in
    let ss = visible (env_of c.args.env.now) in
    let is = map item_view c.args.items.now in
    IfOk-weaker c.all_edges.result (λ (r : Vec (Vec ℕ Global) Global). lists r.items ≡ edges_by f ss is) (λ (r : Vec (Vec ℕ Global) Global). length r.items ≡ length c.args.items.now)
    (λ r h. sym (count_lists r.items) ∙ ap length h ∙ edges_length f ss is ∙ count_items item_view c.args.items.now) c.all_edges.ensures.value

pub returns-clause-edges : goal.returns-clause-edges
returns-clause-edges c =
    let f = λ (x : List ℕ). number_of x c.in_ok-numbers.numbers in
    let ss = visible (env_of c.args.env.now) in
    let is = map item_view c.args.items.now in
    IfOk-weaker c.all_edges.result (λ (r : Vec (Vec ℕ Global) Global). lists r.items ≡ edges_by f ss is) (λ (r : Vec (Vec ℕ Global) Global). (n m : ℕ) → Edge (lists r.items) n m ↔ Leads ss is n m)
    (λ r h n m. edges_exact f ss is c.in_ok-numbers.ensures.value (lists r.items) h n m) c.all_edges.ensures.value
