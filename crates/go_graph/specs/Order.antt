-- Own: in which order the nodes of a graph stand.
use Rattle.std.specs.Prelude.{◌≡◌, ◌<◌, ℕ, List, Some, slice_get}
use Rattle.go_graph.specs.Cycle.{Edge, IsOnCycle}

-- wherever the one stands, it is before the other
abbrev pub StandsBefore : List ℕ → (j i : ℕ) → Type 0
StandsBefore xs j i = (a b : ℕ) → slice_get xs a ≡ Some j → slice_get xs b ≡ Some i → a < b

-- a node that is on no cycle stands after all to which it leads
abbrev pub IsOrdered : List (List ℕ) → List ℕ → Type 0
IsOrdered es xs = (i j : ℕ) → Edge es i j → (IsOnCycle es i → ⊥) → StandsBefore xs j i
