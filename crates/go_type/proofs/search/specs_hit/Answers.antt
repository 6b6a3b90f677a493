use Rattle.std.proofs.Common.{◌≡◌, List, ◌∷◌, length, refl, rules}
use Rattle.go_type.specs.Levels.{specs_of, trees_of, tree_of}
use Rattle.go_type.specs.Table.{places, size}
use Rattle.go_type.specs.Members.{sought, spec_found, specs_found}
use Rattle.go_type.specs.declared.types.MethodSpec.{MethodSpec}
use Rattle.go_type.proofs.HitLemmas.{walk_step, walk_end}
use Rattle.go_type.proofs.search.specs_hit.Goals as goal

pub specs-preserved : goal.specs-preserved
specs-preserved c =
    let ts = places c.args.table.now in
    let f = sought c.args.name.now c.args.«package».now in
    let e : c.specs.rest.now ≡ c.in-Some.spec.now ∷ c.in-Some.others.now = search rules in
    record {
      seen = walk_step ts (λ i (xs : List MethodSpec). specs_found f (tree_of ts c.args.«of») (specs_of ts xs)) (λ i (x : MethodSpec). spec_found f (tree_of ts c.args.«of») x.name x.package (trees_of ts x.sig.params) (trees_of ts x.sig.results) x.sig.variadic) (λ i. specs_found f (tree_of ts c.args.«of») (specs_of ts c.args.specs.now))
          c.in-Some.spec.now c.in-Some.others.now c.specs.rest.now c.specs.hit c.spec_hit.result c.join-hit.result e c.join-hit.ensures.value (λ i. refl) (λ i. c.spec_hit.ensures.seen) c.specs.invariant.seen;
      within = c.join-hit.ensures.within (size c.args.table.now) c.specs.invariant.within c.spec_hit.ensures.within;
      below = search rules;
    }

pub returns-clause-seen : goal.returns-clause-seen
returns-clause-seen c =
    let ts = places c.args.table.now in
    let f = sought c.args.name.now c.args.«package».now in
    let e : length c.specs.rest.now ≡ 0 = search rules in
    walk_end ts (λ i (xs : List MethodSpec). specs_found f (tree_of ts c.args.«of») (specs_of ts xs)) (λ i (x : MethodSpec). spec_found f (tree_of ts c.args.«of») x.name x.package (trees_of ts x.sig.params) (trees_of ts x.sig.results) x.sig.variadic) (λ i. specs_found f (tree_of ts c.args.«of») (specs_of ts c.args.specs.now))
    c.specs.rest.now c.specs.hit e (λ j. refl) c.specs.invariant.seen
