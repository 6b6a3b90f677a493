use Rattle.std.proofs.Common.{◌≡◌, [], ◌∷◌, ◌++◌, ap, sym, ◌∙◌, arith}
use Rattle.go_type.specs.Table.{places, names}
use Rattle.go_type.specs.Walk.{shift, seen_in, Expands, times_in}
use Rattle.go_type.proofs.WalkLemmas.{expands_push, expands_seen, expands_twice, on_true}
use Rattle.go_type.proofs.walk.enter.Goals as goal

pub returns-then-holds-clause-expands : goal.returns-then-holds-clause-expands
returns-then-holds-clause-expands c =
    let w = c.args.table.now in
    expands_seen (names w) (places w) c.args.seen.now c.args.id c.args.follows c.args.next.now.items (sym c.holds.ensures ∙ c.if-holds.true)

pub returns-then-times-ge2-clause-expands : goal.returns-then-times-ge2-clause-expands
returns-then-times-ge2-clause-expands c =
    let w = c.args.table.now in
    let times : c.times_in-times.result ≡ times_in c.args.id c.args.next.now.items = c.times_in-times.ensures ∙ ap (times_in c.args.id) c.as_slice.ensures.value in
    expands_twice (names w) (places w) c.args.seen.now c.args.id c.args.follows c.args.next.now.items (omega (arith, times, c.if-times-ge2.true))

pub returns-clause-expands : goal.returns-clause-expands
returns-clause-expands c =
    let w = c.args.table.now in
    let old = c.args.next.now.items in
    let new = c.push.new.entries.items in
    on_true c.push.result (new ≡ old ++ (c.args.id, c.args.follows) ∷ []) (Expands (names w) (places w) c.args.seen.now (λ f k. shift c.args.follows (seen_in (names w) (places w) f k c.args.id)) old new)
    (λ e. expands_push (names w) (places w) c.args.seen.now c.args.id c.args.follows old new e) c.push.ensures
