-- For private clauses: what a plain search from a node marks, and numbers along which nodes are ordered.
use Rattle.std.specs.List.{count_by}
use Rattle.std.specs.Prelude.{◌≡◌, ◌<◌, ◌+◌, ◌↔◌, ℕ, List, Bool, true, false, cond, length, get_or, IsTrue, [], ◌∷◌, ◌++◌, slice_set}
use Rattle.go_graph.specs.Cycle.{Edge, Walks}

-- by one edge or more
abbrev pub IsReached : List (List ℕ) → (start j : ℕ) → Type 0
IsReached es start j = (k : ℕ) × (ks : List ℕ) × Edge es start k × Walks es k ks j

-- the marks and the queue after these nodes: each that is in the graph and isn't marked is marked, and put at the queue's end
abbrev pub visit_all : List ℕ → List Bool → List ℕ → List Bool × List ℕ
visit_all [] marks queue = (marks, queue)
visit_all (j ∷ js) marks queue = cond (get_or marks j true) (visit_all js marks queue) (visit_all js (slice_set marks j true) (queue ++ j ∷ []))

-- what is marked is what a node leads to in the graph
abbrev pub MarksReached : List (List ℕ) → ℕ → List Bool → Type 0
MarksReached es start marks = (length marks ≡ length es) × ((j : ℕ) → IsTrue (get_or marks j false) ↔ (IsReached es start j × (j < length es)))

-- how many nodes are marked
abbrev pub marked : List Bool → ℕ
marked marks = count_by (λ b. b) marks

-- how many nodes a node leads to, and one more where it isn't among them
abbrev pub rank : List Bool → ℕ → ℕ
rank marks i = cond (get_or marks i false) (marked marks) (marked marks + 1)

-- from a node that isn't told, edges lead to nodes of lesser numbers
abbrev pub Descends : List (List ℕ) → List Bool → List ℕ → Type 0
Descends es told numbers = (i j : ℕ) → Edge es i j → get_or told i false ≡ false → get_or numbers j 0 < get_or numbers i 0
