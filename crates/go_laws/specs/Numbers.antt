-- own: the numbers of the list of choices that a step and a run take.
use Rattle.std.specs.Prelude.{ℕ, zero, suc, List, [], ◌∷◌, ◌++◌, Bool, true, false, Option, Some, None, get_or}
use Rattle.go_core.specs.CoreTree.{CoreProgram}
use Rattle.go_core.specs.Goroutine.{State, Move}
use Rattle.go_core.specs.Run.{step}
use Rattle.go_laws.specs.Selecting.{chooses}

-- the n-th number of a list of choices, which ends in zeros
abbrev pub number_at : List ℕ → ℕ → ℕ
number_at choices n = get_or choices n 0

-- so many of its numbers from a place on, in order
abbrev pub numbers_from : List ℕ → ℕ → ℕ → List ℕ
numbers_from choices n zero = []
numbers_from choices n (suc count) = number_at choices n ∷ numbers_from choices (suc n) count

-- the first ones
abbrev pub first_numbers : List ℕ → ℕ → List ℕ
first_numbers choices count = numbers_from choices 0 count

abbrev pub next_if : List ℕ → Bool → ℕ → List ℕ
next_if choices true n = number_at choices n ∷ []
next_if choices false n = []

module _ (p : CoreProgram) (choices : List ℕ) where
  -- a step takes the next number where it chooses among several clauses, and else none
  abbrev pub numbers_of_step : Move → State → List ℕ
  numbers_of_step move s = next_if choices (chooses p move s) s.taken

  abbrev pub numbers_of_moves : List Move → Option State → List ℕ
  numbers_of_moves moves None = []
  numbers_of_moves [] (Some s) = []
  numbers_of_moves (move ∷ moves) (Some s) = numbers_of_step move s ++ numbers_of_moves moves (step p choices move s)

  -- the numbers that a run from a state takes, in order
  abbrev pub numbers_of_run : List Move → State → List ℕ
  numbers_of_run moves s = numbers_of_moves moves (Some s)
