-- Numbers are taken in order: what a run takes of the list of choices is exactly its beginning, a select takes the next
-- number where several of its clauses can proceed, and nothing else takes one.
use Rattle.std.specs.Prelude.{◌≡◌, ℕ, suc, ◌+◌, ◌%◌, List, ◌∷◌, false, Some, length, get_or}
use Rattle.go_core.specs.CoreTree.{CoreProgram, InitStep}
use Rattle.go_core.specs.Goroutine.{State, Move}
use Rattle.go_core.specs.Run.{step, after, start}
use Rattle.go_core.specs.Communicate.{case_count, way_taken}
use Rattle.go_laws.specs.Selecting.{Selecting, selecting, ready_clauses, chooses}
use Rattle.go_laws.specs.Numbers.{number_at, numbers_from, first_numbers, numbers_of_step, numbers_of_run}

-- ---- a step

-- a step counts the numbers that it takes: one where it chooses, else none
abbrev pub StepsCount : Type 0
StepsCount = (p : CoreProgram) (choices : List ℕ) (move : Move) (s s' : State)
    → step p choices move s ≡ Some s' → s'.taken ≡ s.taken + length (numbers_of_step p choices move s)

-- of several clauses that can proceed, the way of the one is taken that the next number says, modulo how many they are
abbrev pub NextChooses : Type 0
NextChooses = (p : CoreProgram) (choices : List ℕ) (move : Move) (s : State) (c : Selecting) (v w : ℕ) (ws : List ℕ)
    → selecting p move s ≡ Some c → ready_clauses p move s ≡ v ∷ w ∷ ws
    → step p choices move s
    ≡ way_taken p move.goroutine move (get_or (v ∷ w ∷ ws) (number_at choices s.taken % length (v ∷ w ∷ ws)) v) c.offers c.frame c.below
    (record s { units = s.units + case_count p move.goroutine move c.clauses; taken = suc s.taken })

-- no other number matters to it
abbrev pub OthersDont : Type 0
OthersDont = (p : CoreProgram) (choices choices' : List ℕ) (move : Move) (s : State)
    → number_at choices s.taken ≡ number_at choices' s.taken → step p choices move s ≡ step p choices' move s

-- where it doesn't choose, no number does
abbrev pub NothingElseChooses : Type 0
NothingElseChooses = (p : CoreProgram) (choices choices' : List ℕ) (move : Move) (s : State)
    → chooses p move s ≡ false → step p choices move s ≡ step p choices' move s

-- ---- a run

-- the numbers that a run takes are those that follow the ones that were taken before it, in order
abbrev pub RunsTake : Type 0
RunsTake = (p : CoreProgram) (choices : List ℕ) (moves : List Move) (s s' : State)
    → after p choices moves s ≡ Some s'
    → (numbers_of_run p choices moves s ≡ numbers_from choices s.taken (length (numbers_of_run p choices moves s)))
    × (s'.taken ≡ s.taken + length (numbers_of_run p choices moves s))

-- from the start on they are the beginning of the list, as long as the state says
abbrev pub RunsTakeTheFirst : Type 0
RunsTakeTheFirst = (p : CoreProgram) (order : List InitStep) (choices : List ℕ) (moves : List Move) (s : State)
    → after p choices moves (start p order) ≡ Some s → numbers_of_run p choices moves (start p order) ≡ first_numbers choices s.taken

-- with other choices that begin with the same numbers the run is the same
abbrev pub TheFirstDecide : Type 0
TheFirstDecide = (p : CoreProgram) (order : List InitStep) (choices choices' : List ℕ) (moves : List Move) (s : State)
    → after p choices moves (start p order) ≡ Some s → first_numbers choices' s.taken ≡ first_numbers choices s.taken
    → after p choices' moves (start p order) ≡ Some s
