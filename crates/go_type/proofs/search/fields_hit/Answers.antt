use Rattle.std.proofs.Common.{◌≡◌, List, ◌∷◌, length, refl, rules}
use Rattle.go_type.specs.Levels.{fields_of}
use Rattle.go_type.specs.Table.{places, size}
use Rattle.go_type.specs.Members.{sought, field_found, fields_found}
use Rattle.go_type.specs.declared.types.FieldRow.{FieldRow}
use Rattle.go_type.proofs.HitLemmas.{walk_step, walk_end}
use Rattle.go_type.proofs.search.fields_hit.Goals as goal

pub fields-preserved : goal.fields-preserved
fields-preserved c =
    let ts = places c.args.table.now in
    let f = sought c.args.name.now c.args.«package».now in
    let e : c.fields.rest.now ≡ c.in-Some.field.now ∷ c.in-Some.others.now = search rules in
    record {
      seen = walk_step ts (λ i (xs : List FieldRow). fields_found f i (fields_of ts xs)) (λ i (x : FieldRow). field_found f i x.name x.package) (λ i. fields_found f i (fields_of ts c.args.fields.now))
          c.in-Some.field.now c.in-Some.others.now c.fields.rest.now c.fields.hit c.field_hit.result c.join-hit.result e c.join-hit.ensures.value (λ i. refl) c.field_hit.ensures.seen c.fields.invariant.seen;
      within = c.join-hit.ensures.within (size c.args.table.now) c.fields.invariant.within c.field_hit.ensures.within;
    }

pub returns-clause-seen : goal.returns-clause-seen
returns-clause-seen c =
    let ts = places c.args.table.now in
    let f = sought c.args.name.now c.args.«package».now in
    let e : length c.fields.rest.now ≡ 0 = search rules in
    walk_end ts (λ i (xs : List FieldRow). fields_found f i (fields_of ts xs)) (λ i (x : FieldRow). field_found f i x.name x.package) (λ i. fields_found f i (fields_of ts c.args.fields.now))
    c.fields.rest.now c.fields.hit e (λ j. refl) c.fields.invariant.seen
