-- For private clauses: what is tested of the components that a walk found.
use Rattle.std.specs.Prelude.{◌≡◌, ◌<◌, ◌≤◌, ◌⊎◌, ℕ, List, Some, length, get_or, slice_get}
use Rattle.go_graph.specs.Cycle.{Edge}

-- the component of a node
abbrev pub number : List ℕ → ℕ → ℕ
number of i = get_or of i 0

abbrev pub FallsFrom : ℕ → List ℕ → ℕ → List ℕ → Type 0
FallsFrom n of i js = (k j : ℕ) → slice_get js k ≡ Some j → (j < n) × (number of j ≤ number of i)

-- each edge leads to a node, and to a component of no greater number
abbrev pub Falls : List (List ℕ) → List ℕ → Type 0
Falls es of = (i j : ℕ) → Edge es i j → (j < length es) × (number of j ≤ number of i)

-- a node of the same component that was met before leads here
abbrev pub IsLedTo : List (List ℕ) → (of met : List ℕ) → ℕ → Type 0
IsLedTo es of met i = (p : ℕ) × (p < length es) × Edge es p i × (number of p ≡ number of i) × (get_or met p 0 < get_or met i 0)

-- this one leads to one of the same component that is nearer
abbrev pub LeadsBack : List (List ℕ) → (of far : List ℕ) → ℕ → Type 0
LeadsBack es of far i = (q : ℕ) × (q < length es) × Edge es i q × (number of q ≡ number of i) × (get_or far q 0 < get_or far i 0)

-- the first node of a node's component
abbrev pub first_of : (of first : List ℕ) → ℕ → ℕ
first_of of first i = get_or first (number of i) 0

abbrev pub Joins : List (List ℕ) → (of first met far : List ℕ) → ℕ → Type 0
Joins es of first met far i = (first_of of first i ≡ i) ⊎ (IsLedTo es of met i × LeadsBack es of far i)

abbrev pub JoinsAll : List (List ℕ) → (of first met far : List ℕ) → Type 0
JoinsAll es of first met far = (i : ℕ) → i < length es → Joins es of first met far i

-- an edge leads to the same component
abbrev pub Stays : List (List ℕ) → List ℕ → ℕ → Type 0
Stays es of i = (j : ℕ) × Edge es i j × (number of j ≡ number of i)

abbrev pub StaysFrom : List ℕ → ℕ → List ℕ → Type 0
StaysFrom of i js = (k j : ℕ) × (slice_get js k ≡ Some j) × (number of j ≡ number of i)
