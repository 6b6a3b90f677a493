use Rattle.std.proofs.Common.{◌≡◌, ℕ, suc, get_or, ap, ◌∙◌}
use Rattle.go_type.specs.Tree.{Ty, bool}
use Rattle.go_type.specs.Levels.{level}
use Rattle.go_type.specs.Underlying.{underlying}
use Rattle.go_type.specs.Table.{places, names}
use Rattle.go_type.specs.Members.{members_at, through, fields_in}
use Rattle.go_type.specs.Walk.{look, shift, seen_in, Expands}
use Rattle.go_type.specs.Members.{Sought}
use Rattle.go_type.proofs.WalkLemmas.{expands_like, on_true}
use Rattle.go_type.proofs.walk.enter_type.Goals as goal

pub returns-clause-expands : goal.returns-clause-expands
unfolding members_at
returns-clause-expands c =
    let w = c.args.table.now in
    let ns = names w in
    let ts = places w in
    let seen = c.args.seen.now in
    let b = c.args.follows in
    let old = c.args.next.now.items in
    let new = c.enter_level.new.next.items in
    let g = c.get-under.result.now in
    let e : level ts g ≡ underlying ns (get_or ts c.args.id bool) = c.get-under.ensures.tree ∙ c.underlying.ensures.tree in
    on_true c.enter_level.result (Expands ns ts seen (λ f k. shift b (look (through (members_at ns f k) 0 (fields_in (level ts g))))) old new) (Expands ns ts seen (λ f k. shift b (seen_in ns ts f (suc k) c.args.id)) old new)
    (λ x. expands_like ns ts seen (λ f k. shift b (look (through (members_at ns f k) 0 (fields_in (level ts g))))) (λ f k. shift b (seen_in ns ts f (suc k) c.args.id)) old new
    (λ (f : Sought) (k : ℕ). ap (λ (u : Ty). shift b (look (through (members_at ns f k) 0 (fields_in u)))) e) x)
    c.enter_level.ensures.expands
