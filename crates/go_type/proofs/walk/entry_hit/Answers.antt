use Rattle.std.proofs.Common.{get_or, map, ap, sym, ◌∙◌, subst}
use Rattle.std.specs.Prelude.{Bool}
use Rattle.go_type.specs.Tree.{bool}
use Rattle.go_type.specs.Table.{places, names}
use Rattle.go_type.specs.Members.{sought, behind, own_members}
use Rattle.go_type.specs.Hits.{Sees}
use Rattle.go_type.specs.Walk.{pointer_if}
use Rattle.go_type.specs.declared.hits.Hit.{Hit}
use Rattle.go_type.proofs.HitLemmas.{sees_behind}
use Rattle.go_type.proofs.WalkLemmas.{if_pointer}
use Rattle.go_type.specs.Hits.{after}
use Rattle.go_type.proofs.walk.entry_hit.Goals as goal

pub returns-clause-seen : goal.returns-clause-seen
returns-clause-seen c =
    let w = c.args.table.now in
    let ts = places w in
    let own = own_members (names w) (sought c.args.name.now c.args.«package».now) (get_or ts c.args.id bool) in
    let ss = pointer_if c.args.follows in
    subst (λ (h : Hit). Sees ts (map (behind ss) own) h) (ap (λ (b : Bool). after b c.own_hit.result) (if_pointer c.args.follows) ∙ sym c.after.ensures.value) (sees_behind ts ss own c.own_hit.result c.own_hit.ensures.seen)
