use Rattle.std.proofs.Common.{◌≡◌, ℕ, suc, List, ◌∷◌, length, sym, subst, rules}
use Rattle.std.specs.Prelude.{Bool}
use Rattle.go_type.specs.Table.{places, names}
use Rattle.go_type.specs.Walk.{shift, seen_in, total, Expands}
use Rattle.go_type.proofs.WalkLemmas.{expands_both, level_end}
use Rattle.go_type.proofs.walk.expand.Goals as goal

pub level-preserved : goal.level-preserved
level-preserved c =
    let w = c.args.table.now in
    let ns = names w in
    let ts = places w in
    let seen = c.args.seen.now in
    let x = c.in-Some.entry.now in
    let others = c.in-Some.others.now in
    let old = c.level.next.items in
    let mid = c.enter_type.new.next.items in
    let e : c.level.rest.now ≡ x ∷ others = search rules in
    record {
      rest = λ new h. c.level.invariant.rest new (subst (λ (xs : List (ℕ × Bool)). Expands ns ts seen (λ f k. total ns ts f xs (suc k)) old new) (sym e)
          (expands_both ns ts seen (λ f k. shift x.1 (seen_in ns ts f (suc k) x.0)) (λ f k. total ns ts f others (suc k)) old mid new c.if-not-enter_type.ensures.expands h));
      within = c.if-not-enter_type.ensures.within;
      below = search rules;
    }

pub returns-clause-expands : goal.returns-clause-expands
returns-clause-expands c =
    let w = c.args.table.now in
    let e : length c.level.rest.now ≡ 0 = search rules in
    c.level.invariant.rest c.level.next.items (level_end (names w) (places w) c.args.seen.now c.level.rest.now c.level.next.items e)
