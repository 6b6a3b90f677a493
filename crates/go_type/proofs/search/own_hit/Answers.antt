use Rattle.std.proofs.Common.{subst, sym, ◌∙◌}
use Rattle.go_type.specs.Tree.{Ty}
use Rattle.go_type.specs.Levels.{tree_of}
use Rattle.go_type.specs.Table.{places, names}
use Rattle.go_type.specs.Members.{sought, shape_found, declared_found, own_members}
use Rattle.go_type.specs.Hits.{Sees}
use Rattle.go_type.specs.declared.hits.Hit.{Hit}
use Rattle.go_type.proofs.HitLemmas.{sees_join}
use Rattle.go_type.proofs.search.own_hit.Goals as goal

pub returns-clause-seen : goal.returns-clause-seen
returns-clause-seen c =
    let ts = places c.args.table.now in
    let ns = names c.args.table.now in
    let f = sought c.args.name.now c.args.«package».now in
    let t = tree_of ts c.args.t in
    let shape = subst (λ (u : Ty). Sees ts (shape_found f t u) c.shape_hit.result) (c.get-under.ensures.tree ∙ c.underlying.ensures.tree) c.shape_hit.ensures.seen in
    subst (λ (h : Hit). Sees ts (own_members ns f t) h) (sym c.join.ensures.value)
    (sees_join ts (shape_found f t _) (declared_found ns f t) c.shape_hit.result c.declared_hit.result shape c.declared_hit.ensures.seen)
