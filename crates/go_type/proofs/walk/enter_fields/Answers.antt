use Rattle.std.proofs.Common.{◌≡◌, ◌∷◌, true, false, length, subst, rules}
use Rattle.std.specs.Prelude.{Bool}
use Rattle.go_type.specs.Table.{places, names}
use Rattle.go_type.specs.Walk.{shift, seen_in, Expands}
use Rattle.go_type.proofs.WalkLemmas.{enters_field, skips_field, fields_end}
use Rattle.go_type.proofs.walk.enter_fields.Goals as goal

pub fields-preserved-else-not-enter : goal.fields-preserved-else-not-enter
fields-preserved-else-not-enter c =
    let w = c.args.table.now in
    let ns = names w in
    let ts = places w in
    let seen = c.args.seen.now in
    let r = c.in-Some.field.now in
    let fs = c.in-Some.others.now in
    let i = c.base-pointer.result.0.0 in
    let p = c.base-pointer.result.1 in
    let old = c.fields.next.items in
    let mid = c.enter.new.next.items in
    let e : c.fields.rest.now ≡ r ∷ fs = search rules in
    let b : r.embedded ≡ true = search rules in
    let x = subst (λ (b : Bool). Expands ns ts seen (λ f k. shift b (seen_in ns ts f k i)) old mid) c.either-behind.ensures c.if-not-enter.ensures.expands in
    record {
      rest = λ new h. c.fields.invariant.rest new (enters_field ns ts seen c.args.follows p i r c.fields.rest.now fs old mid new e b c.base-pointer.ensures.tree c.base-pointer.ensures.pointer x h);
      within = c.if-not-enter.ensures.within;
      below = search rules;
    }

pub fields-preserved : goal.fields-preserved
fields-preserved c =
    let w = c.args.table.now in
    let r = c.in-Some.field.now in
    let fs = c.in-Some.others.now in
    let e : c.fields.rest.now ≡ r ∷ fs = search rules in
    let b : r.embedded ≡ false = search rules in
    record {
      rest = λ new h. c.fields.invariant.rest new (skips_field (names w) (places w) c.args.seen.now c.args.follows r c.fields.rest.now fs c.fields.next.items new e b h);
      within = c.fields.invariant.within;
      below = search rules;
    }

pub returns-clause-expands : goal.returns-clause-expands
returns-clause-expands c =
    let w = c.args.table.now in
    let e : length c.fields.rest.now ≡ 0 = search rules in
    c.fields.invariant.rest c.fields.next.items (fields_end (names w) (places w) c.args.seen.now c.args.follows c.fields.rest.now c.fields.next.items e)
