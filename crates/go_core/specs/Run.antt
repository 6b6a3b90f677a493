-- Go specification (as of Go 1.17), "Program initialization and execution", "Program execution": the runs of a
-- program. Scheduling is free. own: the deadlock's end.
use Rattle.std.specs.Prelude.{◌≡◌, ℕ, suc, ◌+◌, List, [], ◌∷◌, ◌&&◌, ◌==◌, bytes_eq, if◌then◌else◌, Option, Some, None, slice_get, option_and_then, codes}
use Rattle.go_core.specs.CoreTree.{Bound, no_bound, bound, PackageVar, InitStep, initialise, call_init, CoreProgram}
use Rattle.go_core.specs.StepMemory.{global_zeros, global_weight}
use Rattle.go_core.specs.Opened.{evaluated}
use Rattle.go_core.specs.Goroutine.{Task, set_globals, call_with, the_function, finish, normal, called, Frame, able, State, End, going, fatal, Move}
use Rattle.go_core.specs.GoStep.{goroutine_step}
use Rattle.go_core.specs.Communicate.{any_moves}

abbrev pub deadlock_text : List ℕ
deadlock_text = codes "all goroutines are asleep - deadlock!"

-- no goroutine can move
abbrev pub deadlocked : State → State
deadlocked s = record s { end = fatal deadlock_text; units = s.units + 1 }

abbrev pub while_going : End → Option State → Option State
while_going going next = next
while_going _ next = None

-- with these choices: the numbers that `select` statements take, one after another, and then zeros
module _ (p : CoreProgram) (choices : List ℕ) where
  -- the state after a move, where it may be made
  abbrev pub step : Move → State → Option State
  step move s =
      while_going s.end
      (if any_moves 0 s.goroutines s
      then goroutine_step p choices move move.goroutine (slice_get s.goroutines move.goroutine) s
      else Some (deadlocked s))

  -- the state after these moves
  abbrev pub after : List Move → State → Option State
  after [] s = Some s
  after (move ∷ moves) s = option_and_then (after moves) (step move s)

-- ---- the beginning

-- the package variables that one initialiser sets, by their places from the k-th on
abbrev pub set_with : PackageVar → ℕ → List PackageVar → List ℕ
set_with x k [] = []
set_with x k (v ∷ vs) =
    if (v.first == x.number) && bytes_eq v.package_ x.package_ then k ∷ set_with x (suc k) vs else set_with x (suc k) vs

abbrev pub initialised : Bound → List ℕ → List Task → List Task
initialised no_bound ns rest = rest
initialised (bound e) ns rest = evaluated e (set_globals ns ∷ rest)

abbrev pub initialised_at : CoreProgram → Option PackageVar → List Task → List Task
initialised_at p None rest = rest
initialised_at p (Some x) rest = initialised x.initialiser (set_with x 0 p.globals) rest

abbrev pub init_tasks : CoreProgram → List InitStep → List Task → List Task
init_tasks p [] rest = rest
init_tasks p (initialise n ∷ order) rest = initialised_at p (slice_get p.globals n) (init_tasks p order rest)
init_tasks p (call_init func ∷ order) rest = call_with (the_function func) 0 ∷ init_tasks p order rest

-- the frame that runs initialisers belongs to no function
abbrev pub first_frame : List Task → Frame
first_frame tasks = record {
  func = None;
  tasks = tasks;
  values = [];
  places = [];
  deferred_calls = [];
  results = [];
  mode = normal;
  purpose = called;
}

-- all package variables are zero, and one goroutine is able
abbrev pub start : CoreProgram → List InitStep → State
start p order = record {
  goroutines = record { frames = first_frame (init_tasks p order (call_with (the_function p.main) 0 ∷ finish ∷ [])) ∷ []; waiting = able } ∷ [];
  memory = record { cells = global_zeros p.names p.globals; maps = []; channels = [] };
  printed = [];
  taken = 0;
  units = 1 + global_weight p.names p.globals;
  end = going;
}

-- some run of the program with this order and these choices comes to this state
abbrev pub IsReached : CoreProgram → List InitStep → List ℕ → State → Type 0
IsReached p order choices s = (moves : List Move) × (after p choices moves (start p order) ≡ Some s)
