use Rattle.std.proofs.Common.{◌≡◌, List, ◌∷◌, length, map, refl, rules}
use Rattle.go_type.specs.Levels.{tree_of}
use Rattle.go_type.specs.Named.{method_of}
use Rattle.go_type.specs.Table.{places, size}
use Rattle.go_type.specs.Members.{sought, method_found, methods_found}
use Rattle.go_type.specs.declared.types.Method.{Method}
use Rattle.go_type.proofs.HitLemmas.{walk_step, walk_end}
use Rattle.go_type.proofs.search.methods_hit.Goals as goal

pub methods-preserved : goal.methods-preserved
methods-preserved c =
    let ts = places c.args.table.now in
    let f = sought c.args.name.now c.args.«package».now in
    let e : c.methods.rest.now ≡ c.in-Some.method.now ∷ c.in-Some.others.now = search rules in
    record {
      seen = walk_step ts (λ i (xs : List Method). methods_found f (tree_of ts c.args.«of») c.args.home.now (map (method_of ts) xs)) (λ i (x : Method). method_found f (tree_of ts c.args.«of») c.args.home.now (method_of ts x)) (λ i. methods_found f (tree_of ts c.args.«of») c.args.home.now (map (method_of ts) c.args.methods.now))
          c.in-Some.method.now c.in-Some.others.now c.methods.rest.now c.methods.hit c.method_hit.result c.join-hit.result e c.join-hit.ensures.value (λ i. refl) (λ i. c.method_hit.ensures.seen) c.methods.invariant.seen;
      within = c.join-hit.ensures.within (size c.args.table.now) c.methods.invariant.within c.method_hit.ensures.within;
      below = search rules;
    }

pub returns-clause-seen : goal.returns-clause-seen
returns-clause-seen c =
    let ts = places c.args.table.now in
    let f = sought c.args.name.now c.args.«package».now in
    let e : length c.methods.rest.now ≡ 0 = search rules in
    walk_end ts (λ i (xs : List Method). methods_found f (tree_of ts c.args.«of») c.args.home.now (map (method_of ts) xs)) (λ i (x : Method). method_found f (tree_of ts c.args.«of») c.args.home.now (method_of ts x)) (λ i. methods_found f (tree_of ts c.args.«of») c.args.home.now (map (method_of ts) c.args.methods.now))
    c.methods.rest.now c.methods.hit e (λ j. refl) c.methods.invariant.seen
