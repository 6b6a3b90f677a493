use Rattle.std.proofs.Common.{◌≡◌, ◌++◌, ℕ, List, [], drop, map}
use Rattle.go_operands.specs.AnswerView.{flaw_view}
use Rattle.go_items.specs.ItemView.{item_view}
use Rattle.go_typing.specs.Cycles.{is_among, cycles_from}
use Rattle.go_walk.specs.SetsHas.{has_name}
use Rattle.go_typing.specs.Env.{Bind}
use Rattle.go_items.specs.Leads.{TellsFrom, Tells}
use Rattle.go_items.proofs.needs.told.cycles_told.Given as goal

-- the names that stood before, and what is told so far with what is left
abbrev pub invariant-loop-i : goal.invariant-loop-i
invariant-loop-i l =
    (seen : List (List ℕ)) × ((y : List ℕ) → has_name y l.seen ≡ is_among y seen)
    × ((ss : List (List Bind)) → Tells ss (map item_view l.items) l.is_lasting → TellsFrom ss (map item_view l.items) l.is_lasting l.i seen (map item_view (drop l.i l.items)))
    × ((ss : List (List Bind)) → Tells ss (map item_view l.items) l.is_lasting →
    map flaw_view l.flaws.items ++ cycles_from ss (map item_view l.items) seen (map item_view (drop l.i l.items))
    ≡ map flaw_view l.initial.flaws.items ++ cycles_from ss (map item_view l.items) [] (map item_view l.items))
