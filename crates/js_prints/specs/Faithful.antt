-- own: a script is faithful to a program where whatever it does, some run of the program does.
use Rattle.std.specs.Prelude.{◌≡◌, ◌≤◌, ◌+◌, ◌*◌, ◌++◌, List, [], ◌∷◌, ℕ, codes}
use Rattle.js_tree.specs.Script.{ScriptTree}
use Rattle.js_tree.specs.ScriptRun.{ScriptResult, script_run}
use Rattle.js_tree.specs.Value.{Going, Ended, Stuck}
use Rattle.js_tree.specs.Value as script
use Rattle.go_core.specs.CoreTree.{CoreProgram, InitStep}
use Rattle.go_core.specs.Goroutine.{State, going, exit, panicked, fatal}
use Rattle.go_core.specs.Goroutine as go
use Rattle.go_core.specs.Run.{IsReached}

-- the line that tells why a run ended with status 2
abbrev pub report : List ℕ → List ℕ → List ℕ
report word text = word ++ text ++ 10 ∷ []

-- which end of a script's run is which end of a program's run; a script that is stuck is none
abbrev pub EndsAlike : script.End → go.End → Type 0
EndsAlike Going going = Unit {0}
EndsAlike (Ended code text) (exit status) = (code ≡ status) × (text ≡ [])
EndsAlike (Ended code text) (panicked panic) = (code ≡ 2) × (text ≡ report (codes "panic: ") panic)
EndsAlike (Ended code text) (fatal error) = (code ≡ 2) × (text ≡ report (codes "fatal error: ") error)
EndsAlike _ _ = ⊥

-- what a script's run did is what the program's run has done, and the square of its units bounds the ticks
pub record Matches (result : ScriptResult) (state : State) : Type 0 where
  pub printed : result.printed ≡ state.printed
  pub taken : result.taken ≡ state.taken
  pub ends : EndsAlike result.end state.end
  pub within : result.ticks ≤ 4096 * ((state.units + 1) * (state.units + 1))

-- for all choices and any number of ticks, with this order of initialisation
abbrev pub Faithful : ScriptTree → CoreProgram → List InitStep → Type 0
Faithful s program order = (choices : List ℕ) (ticks : ℕ) → (state : State) × IsReached program order choices state × Matches (script_run s choices ticks) state
