use Rattle.std.proofs.Common.{◌∙◌, sym, ap, subst, ℕ, List, length, map, get_or, false}
use Rattle.std.specs.Prelude.{Vec, ◌↔◌, IsTrue, IsPermutation}
use Rattle.std.specs.List.{range_with_len}
use Rattle.std.specs.declared.alloc.Global.{Global}
use Rattle.std.proofs.lemmas.Result.{IfOk-weaker}
use Rattle.go_graph.specs.Cycle.{lists, Edge, IsOnCycle}
use Rattle.go_graph.specs.Order.{IsOrdered}
use Rattle.go_graph.specs.declared.cycles.Lasting.{Lasting}
use Rattle.go_items.specs.ItemView.{item_view}
use Rattle.go_operands.specs.EnvView.{env_of}
use Rattle.go_typing.specs.Scopes.{visible}
use Rattle.go_items.specs.Leads.{Leads, Tells, IsInOrder}
use Rattle.go_items.proofs.CircleLemmas.{tells, in_order, both_ok}
use Rattle.go_items.proofs.needs.order.order_of.Goals as goal

pub returns-clause-tells : goal.returns-clause-tells
returns-clause-tells c =
    let ss = visible (env_of c.args.env.now) in
    let all = map item_view c.args.items.now in
    let es = lists c.as_slice.result.now in
    let edges = λ (n m : ℕ). subst (λ (vs : List (Vec ℕ Global)). Edge (lists vs) n m ↔ Leads ss all n m) (sym c.as_slice.ensures.value) (c.in_ok-edges.ensures.edges n m) in
    IfOk-weaker c.lasting_in.result (λ (r : Lasting). (i : ℕ) → IsTrue (get_or r.is_lasting.items i false) ↔ IsOnCycle es i) (λ (r : Lasting). Tells ss all r.is_lasting.items)
    (λ r h. tells ss all es edges r.is_lasting.items h) c.lasting_in.ensures.exact

pub returns-clause-each : goal.returns-clause-each
returns-clause-each c =
    let count = ap length c.as_slice.ensures.value ∙ c.in_ok-edges.ensures.count in
    IfOk-weaker c.lasting_in.result (λ (r : Lasting). IsPermutation (range_with_len 0 (length c.as_slice.result.now)) r.nodes.items) (λ (r : Lasting). IsPermutation (range_with_len 0 (length c.args.items.now)) r.nodes.items)
    (λ r h. subst (λ (n : ℕ). IsPermutation (range_with_len 0 n) r.nodes.items) count h) c.lasting_in.ensures.each

pub returns-clause-order : goal.returns-clause-order
returns-clause-order c =
    let ss = visible (env_of c.args.env.now) in
    let all = map item_view c.args.items.now in
    let es = lists c.as_slice.result.now in
    let edges = λ (n m : ℕ). subst (λ (vs : List (Vec ℕ Global)). Edge (lists vs) n m ↔ Leads ss all n m) (sym c.as_slice.ensures.value) (c.in_ok-edges.ensures.edges n m) in
    both_ok c.lasting_in.result (λ (r : Lasting). (i : ℕ) → IsTrue (get_or r.is_lasting.items i false) ↔ IsOnCycle es i) (λ (r : Lasting). IsOrdered es r.nodes.items)
    (λ (r : Lasting). IsInOrder ss all r.is_lasting.items r.nodes.items) (λ r h k. in_order ss all es edges r.is_lasting.items h r.nodes.items k) c.lasting_in.ensures.exact c.lasting_in.ensures.order
