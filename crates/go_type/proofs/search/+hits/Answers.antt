use Rattle.std.proofs.Common.{◌≡◌, ◌-◌, List, ◌∷◌, true, length, subst, sym, ◌∙◌, refl, rules}
use Rattle.go_type.specs.Tree.{Ty}
use Rattle.go_type.specs.Levels.{level, tree_of, fields_of}
use Rattle.go_type.specs.Table.{places, names, size}
use Rattle.go_type.specs.Members.{Member, sought, members_at, through, through_one, fields_in}
use Rattle.go_type.specs.Hits.{Sees}
use Rattle.go_type.specs.declared.types.FieldRow.{FieldRow}
use Rattle.go_type.specs.declared.types.GoType.{GoType}
use Rattle.go_type.proofs.HitLemmas.{walk_step, walk_end, members_zero, members_step, sees_through}
use Rattle.go_type.proofs.search.+hits.Goals as goal

pub below_hit-returns-in-Struct-clause-seen : goal.below_hit-returns-in-Struct-clause-seen
below_hit-returns-in-Struct-clause-seen t c =
    let ts = places c.args.table.now in
    let p = members_at (names c.args.table.now) (sought c.args.name.now c.args.«package».now) c.args.depth in
    subst (λ (g : GoType). Sees ts (through p 0 (fields_in (level ts g))) c.through_hit.result) (sym c.in-Struct.is)
    (subst (λ (fs : List FieldRow). Sees ts (through p 0 (fields_of ts fs)) c.through_hit.result) c.as_slice.ensures (c.through_hit.ensures.seen 0))

pub embedded_hit-returns-clause-seen : goal.embedded_hit-returns-clause-seen
embedded_hit-returns-clause-seen t c i =
    let ts = places c.args.table.now in
    let p = members_at (names c.args.table.now) (sought c.args.name.now c.args.«package».now) c.args.depth in
    let e : c.args.field.now.embedded ≡ true = search rules in
    sees_through ts p i (tree_of ts c.args.field.now.ty) c.args.field.now.embedded c.base-follows.result.1 c.hit_at.result c.after.result e (c.base-follows.ensures.pointer i)
    (subst (λ (u : Ty). Sees ts (p u) c.hit_at.result) c.base-follows.ensures.tree c.hit_at.ensures.seen) c.after.ensures.value

pub hit_at-returns-then-depth-eq0-clause-seen : goal.hit_at-returns-then-depth-eq0-clause-seen
hit_at-returns-then-depth-eq0-clause-seen t c =
    let ts = places c.args.table.now in
    subst (λ (ms : List Member). Sees ts ms c.own_hit.result) (members_zero (names c.args.table.now) (sought c.args.name.now c.args.«package».now) c.args.depth (tree_of ts c.args.t) c.if-depth-eq0.true) c.own_hit.ensures.seen

pub hit_at-returns-clause-seen : goal.hit_at-returns-clause-seen
hit_at-returns-clause-seen t c =
    let ts = places c.args.table.now in
    let f = sought c.args.name.now c.args.«package».now in
    subst (λ (ms : List Member). Sees ts ms c.below_hit.result) (members_step (names c.args.table.now) f c.args.depth (tree_of ts c.args.t) c.if-depth-eq0.false)
    (subst (λ (u : Ty). Sees ts (through (members_at (names c.args.table.now) f (c.args.depth - 1)) 0 (fields_in u)) c.below_hit.result) (c.get-under.ensures.tree ∙ c.underlying.ensures.tree) c.below_hit.ensures.seen)

pub through_hit-fields-preserved : goal.through_hit-fields-preserved
through_hit-fields-preserved t c =
    let ts = places c.args.table.now in
    let p = members_at (names c.args.table.now) (sought c.args.name.now c.args.«package».now) c.args.depth in
    let e : c.fields.rest.now ≡ c.in-Some.field.now ∷ c.in-Some.others.now = search rules in
    record {
      seen = walk_step ts (λ i (xs : List FieldRow). through p i (fields_of ts xs)) (λ i (x : FieldRow). through_one p i (tree_of ts x.ty) x.embedded) (λ i. through p i (fields_of ts c.args.fields.now))
          c.in-Some.field.now c.in-Some.others.now c.fields.rest.now c.fields.hit c.embedded_hit.result c.join-hit.result e c.join-hit.ensures.value (λ i. refl) c.embedded_hit.ensures.seen c.fields.invariant.seen;
      below = search rules;
      within = c.join-hit.ensures.within (size c.args.table.now) c.fields.invariant.within c.embedded_hit.ensures.within;
    }

pub through_hit-returns-clause-seen : goal.through_hit-returns-clause-seen
through_hit-returns-clause-seen t c =
    let ts = places c.args.table.now in
    let p = members_at (names c.args.table.now) (sought c.args.name.now c.args.«package».now) c.args.depth in
    let e : length c.fields.rest.now ≡ 0 = search rules in
    walk_end ts (λ i (xs : List FieldRow). through p i (fields_of ts xs)) (λ i (x : FieldRow). through_one p i (tree_of ts x.ty) x.embedded) (λ i. through p i (fields_of ts c.args.fields.now))
    c.fields.rest.now c.fields.hit e (λ j. refl) c.fields.invariant.seen
