-- The steps that a frame takes by itself: no frame comes or goes, no other goroutine moves, and none waits.
use Rattle.std.specs.Prelude.{◌≡◌, ℕ, List, [], ◌∷◌, Option, Some, None, slice_get}
use Rattle.go_core.specs.CoreTree.{CoreProgram}
use Rattle.go_core.specs.SoundProgram.{Sound}
use Rattle.go_core.specs.Goroutine as task
use Rattle.go_core.specs.Goroutine.{Task, Frame, able, Goroutine, State, Move}
use Rattle.go_core.specs.GoStep.{goroutine_step}
use Rattle.go_core.specs.WellFormed.{WellFormed}

-- operators, variables, closures, choices, loops, switches, branches, returns, panics, output and ends
abbrev pub IsLocal : Task → Type 0
IsLocal (task.operate o n) = Unit {0}
IsLocal (task.at_local v) = Unit {0}
IsLocal (task.make_closure f) = Unit {0}
IsLocal (task.only_where_true e) = Unit {0}
IsLocal (task.only_where_false e) = Unit {0}
IsLocal (task.bind_vars vs) = Unit {0}
IsLocal (task.declare_var v) = Unit {0}
IsLocal (task.set_globals ns) = Unit {0}
IsLocal (task.choose a b) = Unit {0}
IsLocal (task.turn label c body post) = Unit {0}
IsLocal (task.turn_again label c body post) = Unit {0}
IsLocal (task.choose_clause n ts cs d) = Unit {0}
IsLocal (task.choose_default cs d) = Unit {0}
IsLocal (task.branch_to kind label) = Unit {0}
IsLocal (task.return_with n) = Unit {0}
IsLocal (task.panic_with) = Unit {0}
IsLocal (task.yield_turn) = Unit {0}
IsLocal (task.print_values n ends_line) = Unit {0}
IsLocal (task.exit_with) = Unit {0}
IsLocal (task.fatal_with) = Unit {0}
IsLocal _ = ⊥

-- the first task that is a step is one of these
abbrev pub StartsLocal : List Task → Type 0
StartsLocal [] = ⊥
StartsLocal (task.drop_values n ∷ ts) = StartsLocal ts
StartsLocal (task.push_value x ∷ ts) = StartsLocal ts
StartsLocal (task.leave label ∷ ts) = StartsLocal ts
StartsLocal (t ∷ ts) = IsLocal t

abbrev pub KeepsWell : CoreProgram → Option State → Type 0
KeepsWell p None = ⊥
KeepsWell p (Some s) = WellFormed p s

-- an able goroutine whose next step is of these kinds has it, and the state after it is well formed
abbrev pub LocalStepsKeep : Type 0
LocalStepsKeep =
    (p : CoreProgram) (choices : List ℕ) (move : Move) (g : ℕ) (f : Frame) (below : List Frame) (s : State)
    → Sound p → WellFormed p s → slice_get s.goroutines g ≡ Some (record { frames = f ∷ below; waiting = able }) → StartsLocal f.tasks
    → KeepsWell p (goroutine_step p choices move g (slice_get s.goroutines g) s)
