use Rattle.std.proofs.Common.{◌≡◌, ℕ, List, drop, map}
use Rattle.go_walk.specs.SetsHas.{number_of}
use Rattle.go_items.specs.ItemView.{item_view}
use Rattle.go_items.specs.Leads.{number_from, first_number}
use Rattle.go_decls.proofs.NumberLemmas.{or_number}
use Rattle.go_decls.proofs.known.numbers.numbers.Given as goal

-- a name's number so far, or else that which is left
abbrev pub invariant-loop-i : goal.invariant-loop-i
invariant-loop-i l = (x : List ℕ) → or_number (number_of x l.all) (number_from l.i x (map item_view (drop l.i l.items))) ≡ first_number x (map item_view l.items)
