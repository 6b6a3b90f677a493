use Rattle.std.proofs.Common.{◌≡◌, ℕ, List, ◌∷◌, get_or, length, map, refl, rules}
use Rattle.std.specs.Prelude.{Bool}
use Rattle.go_type.specs.Tree.{bool}
use Rattle.go_type.specs.Table.{places, names, size}
use Rattle.go_type.specs.Members.{sought, behind, own_members}
use Rattle.go_type.specs.Walk.{spread, pointer_if}
use Rattle.go_type.proofs.HitLemmas.{walk_step, walk_end}
use Rattle.go_type.proofs.walk.level_hit.Goals as goal

pub level-preserved : goal.level-preserved
level-preserved c =
    let w = c.args.table.now in
    let ns = names w in
    let ts = places w in
    let f = sought c.args.name.now c.args.«package».now in
    let e : c.level.rest.now ≡ c.in-Some.entry.now ∷ c.in-Some.others.now = search rules in
    record {
      seen = walk_step ts (λ i (xs : List (ℕ × Bool)). spread ns ts f xs) (λ i (x : ℕ × Bool). map (behind (pointer_if x.1)) (own_members ns f (get_or ts x.0 bool))) (λ i. spread ns ts f c.args.level.now)
          c.in-Some.entry.now c.in-Some.others.now c.level.rest.now c.level.hit c.entry_hit.result c.join-hit.result e c.join-hit.ensures.value (λ i. refl) (λ i. c.entry_hit.ensures.seen) c.level.invariant.seen;
      within = c.join-hit.ensures.within (size w) c.level.invariant.within c.entry_hit.ensures.within;
      below = search rules;
    }

pub returns-clause-seen : goal.returns-clause-seen
returns-clause-seen c =
    let w = c.args.table.now in
    let ns = names w in
    let ts = places w in
    let f = sought c.args.name.now c.args.«package».now in
    let e : length c.level.rest.now ≡ 0 = search rules in
    walk_end ts (λ i (xs : List (ℕ × Bool)). spread ns ts f xs) (λ i (x : ℕ × Bool). map (behind (pointer_if x.1)) (own_members ns f (get_or ts x.0 bool))) (λ i. spread ns ts f c.args.level.now)
    c.level.rest.now c.level.hit e (λ j. refl) c.level.invariant.seen 0
