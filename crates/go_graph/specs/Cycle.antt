-- Own: graphs, by the list of the nodes to which each node leads, and the nodes that are on a cycle.
use Rattle.std.specs.Prelude.{◌≡◌, ℕ, List, [], ◌∷◌, Some, Vec, map, get_or, slice_get}
use Rattle.std.specs.declared.alloc.Global.{Global}

abbrev pub lists : List (Vec ℕ Global) → List (List ℕ)
lists es = map (λ (v : Vec ℕ Global). v.items) es

-- a node leads to another one
abbrev pub Edge : List (List ℕ) → ℕ → ℕ → Type 0
Edge es i j = (k : ℕ) × (slice_get (get_or es i []) k ≡ Some j)

-- by these nodes, one after the other
abbrev pub Walks : List (List ℕ) → ℕ → List ℕ → ℕ → Type 0
Walks es i [] j = i ≡ j
Walks es i (k ∷ ks) j = Edge es i k × Walks es k ks j

-- a node leads to itself, by one edge or more
abbrev pub IsOnCycle : List (List ℕ) → ℕ → Type 0
IsOnCycle es i = (k : ℕ) × (ks : List ℕ) × Edge es i k × Walks es k ks i
