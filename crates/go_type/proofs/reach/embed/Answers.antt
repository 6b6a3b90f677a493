use Rattle.std.proofs.Common.{◌≡◌, ◌∷◌, true, false, length, rules}
use Rattle.go_type.specs.Levels.{tree_of, fields_of}
use Rattle.go_type.specs.Table.{places, size}
use Rattle.go_type.specs.Members.{base_of}
use Rattle.go_type.specs.Chains.{bases_of}
use Rattle.go_type.proofs.ReachLemmas.{so_far_in, extends_in, inserted_below, rest_is, rest_ends}
use Rattle.go_type.proofs.reach.embed.Goals as goal
use Rattle.std.proofs.Common.{subst}
use Rattle.std.proofs.Common.{ℕ, List}
use Rattle.go_type.specs.Reached.{Holds}

pub fields-preserved-in_ok-insert : goal.fields-preserved-in_ok-insert
fields-preserved-in_ok-insert c =
    let ts = places c.args.table.now in
    let all = bases_of (fields_of ts c.args.fields.now) in
    let ids = c.fields.ids.keys in
    let new = c.insert.new.ids.keys in
    let f = c.in-Some.field.now in
    let fs = c.in-Some.others.now in
    let i = c.base.result.0.0 in
    let e : c.fields.rest.now ≡ f ∷ fs = search rules in
    let b : f.embedded ≡ true = search rules in
    record {
      reached = so_far_in ts ids new i (base_of (tree_of ts f.ty)) (bases_of (fields_of ts fs)) all c.in_ok-insert.ensures.keys c.base.ensures.tree (rest_is ts ids c.fields.rest.now fs f true all e b c.fields.invariant.reached);
      more = extends_in c.args.ids.now.keys ids new i c.fields.invariant.more c.in_ok-insert.ensures.keys;
      ids = record {
        below = λ j h. inserted_below (size c.args.table.now) ids i c.fields.invariant.ids.below c.base.ensures.within j (subst (λ (ks : List ℕ). Holds ks j) c.in_ok-insert.ensures.keys h);
        distinct = c.in_ok-insert.ensures.distinct;
      };
      below = search rules;
    }

pub fields-preserved : goal.fields-preserved
fields-preserved c =
    let ts = places c.args.table.now in
    let all = bases_of (fields_of ts c.args.fields.now) in
    let f = c.in-Some.field.now in
    let fs = c.in-Some.others.now in
    let e : c.fields.rest.now ≡ f ∷ fs = search rules in
    let b : f.embedded ≡ false = search rules in
    record {
      reached = rest_is ts c.fields.ids.keys c.fields.rest.now fs f false all e b c.fields.invariant.reached;
      more = c.fields.invariant.more;
      ids = c.fields.invariant.ids;
      below = search rules;
    }

pub returns-clause-reached : goal.returns-clause-reached
returns-clause-reached c =
    let ts = places c.args.table.now in
    let e : length c.fields.rest.now ≡ 0 = search rules in
    rest_ends ts c.fields.ids.keys c.fields.rest.now (bases_of (fields_of ts c.args.fields.now)) e c.fields.invariant.reached
