use Rattle.std.proofs.Common.{◌≡◌, ℕ, suc, ◌≤◌, ◌+◌, List, [], ◌++◌, length, map, refl, ap, sym, ◌∙◌, subst, arith, rules}
use Rattle.std.specs.Prelude.{Bool}
use Rattle.go_type.specs.Levels.{tree_of, trees}
use Rattle.go_type.specs.Table.{places, names, size}
use Rattle.go_type.specs.Members.{sought}
use Rattle.go_type.specs.Hits.{Sees}
use Rattle.go_type.specs.Walk.{total, Expands, AllWithin, first_of, spread}
use Rattle.go_type.proofs.LevelLemmas.{length_trees}
use Rattle.go_type.proofs.Closed.{closed}
use Rattle.go_type.proofs.Finite.{empty_on}
use Rattle.go_type.proofs.WalkLemmas.{walks_start, walks_next, walks_end, sees_here, not_something}
use Rattle.go_type.proofs.walk.walk.Goals as goal

pub loop-depth-init : goal.loop-depth-init
loop-depth-init c =
    let w = c.args.table.now in
    let ts = places w in
    record {
      walks = walks_start (names w) ts (sought c.args.name.now c.args.«package».now) (tree_of ts c.args.t) c.args.t.0 c.none_seen-seen.result.items c.start-level.result.items c.none_seen-seen.ensures c.start-level.ensures refl;
      within = subst (AllWithin (size w)) (sym c.start-level.ensures) (c.requires, tt);
    }

pub returns-then-is_over : goal.returns-then-is_over
returns-then-is_over c =
    let w = c.args.table.now in
    let ts = places w in
    let e : c.loop-depth.level.items ≡ [] = sym c.as_slice-at.ensures.value ∙ c.is_over.ensures c.if-is_over.true in
    walks_end (names w) ts (sought c.args.name.now c.args.«package».now) (tree_of ts c.args.t) c.loop-depth.depth c.loop-depth.seen.items c.loop-depth.level.items c.loop-depth.invariant.walks e

pub returns-then-is_something : goal.returns-then-is_something
returns-then-is_something c =
    let w = c.args.table.now in
    let ns = names w in
    let ts = places w in
    let f = sought c.args.name.now c.args.«package».now in
    let h = c.level_hit-hit.result in
    let s = subst (λ (es : List (ℕ × Bool)). Sees ts (spread ns ts f es) h) c.as_slice-at.ensures.value c.level_hit-hit.ensures.seen in
    (c.loop-depth.invariant.walks.before, sees_here ns ts f (tree_of ts c.args.t) c.loop-depth.depth c.loop-depth.seen.items c.loop-depth.level.items h c.loop-depth.invariant.walks s, search rules, c.level_hit-hit.ensures.within)

pub loop-depth-preserved : goal.loop-depth-preserved
loop-depth-preserved c =
    let w = c.args.table.now in
    let ns = names w in
    let ts = places w in
    let f = sought c.args.name.now c.args.«package».now in
    let t = tree_of ts c.args.t in
    let h = c.level_hit-hit.result in
    let at = c.as_slice-at.ensures.value in
    let level = c.loop-depth.level.items in
    let all = c.next_level.new.seen.items in
    let next = c.in-Some.next.items in
    let s = subst (λ (es : List (ℕ × Bool)). Sees ts (spread ns ts f es) h) at c.level_hit-hit.ensures.seen in
    let here = sees_here ns ts f t c.loop-depth.depth c.loop-depth.seen.items level h c.loop-depth.invariant.walks s in
    let no = sym c.is_something.ensures ∙ c.if-is_something.false in
    let empty = not_something ts _ h no here in
    let e : all ≡ c.loop-depth.seen.items ++ map first_of level = c.in-Some.ensures.seen ∙ ap (λ (es : List (ℕ × Bool)). c.loop-depth.seen.items ++ map first_of es) at in
    let x = subst (λ (es : List (ℕ × Bool)). Expands ns ts all (λ s k. total ns ts s es (suc k)) [] next) at c.in-Some.ensures.expands in
    record {
      walks = walks_next ns ts f t c.loop-depth.depth c.loop-depth.seen.items all level [] next c.loop-depth.invariant.walks empty e refl x;
      within = c.in-Some.ensures.within;
    }

pub returns : goal.returns
returns c =
    let s = c.args.table.now in
    let gs = s.levels.keys in
    let len : length (trees gs) ≡ length gs = length_trees gs in
    let end : length gs + 1 ≤ c.loop-depth.depth = omega (arith, c.len-depth-end.ensures.value, c.loop-depth-test.false) in
    empty_on (names s) (sought c.args.name.now c.args.«package».now) (trees gs) (closed gs s.names.items s.rises s.names_below) c.args.t.0 (omega (arith, c.requires))
    (λ e l. c.loop-depth.invariant.walks.before.at e (omega arith))
