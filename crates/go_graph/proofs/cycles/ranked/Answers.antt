use Rattle.std.proofs.Common.{ℕ, List, refl, sym, subst, get_or, false}
use Rattle.std.specs.Prelude.{IsTrue, ◌↔◌}
use Rattle.go_graph.specs.Cycle.{lists}
use Rattle.go_graph.specs.Joined.{Falls, Stays}
use Rattle.go_graph.specs.Search.{Descends}
use Rattle.go_graph.proofs.CycleLemmas.{exactly}
use Rattle.go_graph.proofs.RankLemmas.{descends_by_components}
use Rattle.go_graph.proofs.cycles.ranked.Goals as goal

pub returns-clause-exact : goal.returns-clause-exact
returns-clause-exact c =
    let es = lists c.args.edges.now in
    let all = c.args.all.now in
    let told = c.in_ok-is_lasting.is_lasting.items in
    let sames = c.as_slice-of.ensures.value in
    exactly es all.of.items all.first.items all.met.items c.args.ways.now.far.items (subst (Falls es) sames (c.if-not-falls.ensures.value refl)) (c.if-not-are_joined.ensures.value refl) told
    (λ i. subst (λ (of : List ℕ). IsTrue (get_or told i false) ↔ Stays es of i) sames (c.in_ok-is_lasting.ensures.value i))

pub returns-clause-falls : goal.returns-clause-falls
returns-clause-falls c =
    let es = lists c.args.edges.now in
    let told = c.in_ok-is_lasting.is_lasting.items in
    subst (λ (of : List ℕ). Descends es told of) (sym c.in_ok-from_slice.ensures.items) (descends_by_components es c.as_slice-of.result.now (c.if-not-falls.ensures.value refl) told c.in_ok-is_lasting.ensures.value)
