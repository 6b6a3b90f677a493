-- Own: points outside functions that the run of a script reaches, and what is left of it there.
use Rattle.std.specs.Prelude.{◌≡◌, ◌++◌, ℕ, List, [], None, Result, Ok, Err}
use Rattle.std.specs.Borrow.{Bor}
use Rattle.gj_base.specs.Counts.{Begins}
use Rattle.gj_base.specs.Sink.{SinkState}
use Rattle.js_tree.specs.Script.{Expr, Item, ScriptTree}
use Rattle.js_tree.specs.Value.{Value, World, gives, over, and_then}
use Rattle.js_tree.specs.Evaluate.{Setting, setting, Called, eval, call_value}
use Rattle.js_tree.specs.ScriptRun as whole
use Rattle.js_tree.specs.ScriptRun.{script_run, result_of, set_globals, call_start, top_scope}
use Rattle.js_value.specs.declared.heap.value.Value as held
use Rattle.js_steps.specs.declared.bodies.body.Body.{Body}
use Rattle.js_steps.specs.declared.frames.frame.End.{End}
use Rattle.js_steps.specs.declared.frames.frame.End.TheVariants.{Stuck}
use Rattle.js_steps.specs.declared.frames.frame.Task.{Task}
use Rattle.js_steps.specs.declared.frames.frame.Task.TheVariants.{Give, Throw}
use Rattle.js_steps.specs.declared.frames.state.State.{State}
use Rattle.js_steps.specs.Stack.{end_of}
use Rattle.js_steps.specs.Stands.{Before, Variables, Stands, world_of}
use Rattle.js_run.specs.declared.walks.stop.Stop.{Stop}
use Rattle.js_run.specs.declared.walks.stop.Stop.TheVariants.{WriteFault, NoMemory, Over}
use Rattle.js_run.specs.Walks.{Moves}
use Rattle.js_run.specs.Runs.{BeginsWith, FailedRun, CutRun}

-- what is left of a run
abbrev pub Rest : Type 0
Rest = Setting → World → Called

-- items in order, and then the start function
abbrev pub items_left : List Item → Rest
items_left items st w = and_then (set_globals st items w) (λ _ w. call_start st w)

-- an expression outside functions, and then more with its value
abbrev pub value_then : Expr → (Value → Rest) → Rest
value_then e next st w = and_then (eval st top_scope [] e w) (λ v w. next v st w)

-- a call without arguments
abbrev pub call_left : ℕ → Value → Rest
call_left at v st w = call_value st at v [] w

-- nothing: the run returned
abbrev pub nothing_left : Rest
nothing_left st w = gives None w

-- what is left takes nothing back of what was printed
abbrev pub PrintsOn : ScriptTree → ℕ → Rest → Type 0
PrintsOn script budget left = (choices : List ℕ) (w : World) → Begins w.printed (whole.world_of (left (setting script choices budget) w)).printed

-- nothing was printed, and no number was taken
abbrev pub beginning : Before
beginning = record { printed = []; taken = 0 }

-- a point of a run: what is left of it comes to what all of it comes to
pub record Point (script : ScriptTree) (choices : List ℕ) (budget : ℕ) (numbers : List ℕ) (sink sink' : SinkState) (s : State) (left : Rest) : Type 0 where
  pub before : Before
  pub variables : Variables
  pub moves : Moves beginning before numbers sink sink'
  pub stands : Stands script budget variables [] s
  pub is : result_of budget (left (setting script choices budget) (world_of before variables s)) ≡ script_run script choices budget

-- such a point was reached, for each list that begins with the numbers that were taken
pub record Reached (script : ScriptTree) (budget : ℕ) (taken taken' : List ℕ) (sink sink' : SinkState) (s : State) (left : Rest) : Type 0 where
  pub numbers : List ℕ
  pub took : taken' ≡ taken ++ numbers
  pub at : (choices : List ℕ) → BeginsWith numbers choices → Point script choices budget numbers sink sink' s left

-- the run is over, and comes to what all of it comes to
pub record OverAt (script : ScriptTree) (choices : List ℕ) (budget : ℕ) (numbers : List ℕ) (sink sink' : SinkState) (s : State) (e : End) : Type 0 where
  pub before : Before
  pub variables : Variables
  pub moves : Moves beginning before numbers sink sink'
  pub is : result_of budget (over (end_of e) (world_of before variables s)) ≡ script_run script choices budget

-- what stopped a run
abbrev pub Stops : Stop → ScriptTree → (choices : List ℕ) → ℕ → (numbers : List ℕ) → (sink sink' : SinkState) → State → Type 0
Stops (Over e) script choices budget numbers sink sink' s = OverAt script choices budget numbers sink sink' s e
Stops WriteFault script choices budget numbers sink sink' s = FailedRun (script_run script choices budget) sink sink'
Stops NoMemory script choices budget numbers sink sink' s = CutRun (script_run script choices budget) sink sink'

pub record Stopped (script : ScriptTree) (budget : ℕ) (taken taken' : List ℕ) (sink sink' : SinkState) (s : State) (stop : Stop) : Type 0 where
  pub numbers : List ℕ
  pub took : taken' ≡ taken ++ numbers
  pub at : (choices : List ℕ) → BeginsWith numbers choices → Stops stop script choices budget numbers sink sink' s

-- a part of a run reached a point, or stopped
abbrev pub Stage : {A : Type 0} → ScriptTree → ℕ → (taken taken' : List ℕ) → (sink sink' : SinkState) → State → Result A Stop → (A → Rest) → Type 0
Stage script budget taken taken' sink sink' s (Ok a) left = Reached script budget taken taken' sink sink' s (left a)
Stage script budget taken taken' sink sink' s (Err stop) left = Stopped script budget taken taken' sink sink' s stop

-- the same state outside functions, with this code
pub record IsOutside (s s' : State) (body : Bor Body) : Type 0 where
  pub left : s'.left ≡ s.left
  pub objects : s'.objects ≡ s.objects
  pub globals : s'.globals ≡ s.globals
  pub body_is : s'.body ≡ body
  pub locals : s'.locals.items ≡ []
  pub caught : s'.caught ≡ None

-- what an expression came to
abbrev pub value_in : Task → Result held.Value Stop
value_in (Give v) = Ok v
value_in (Throw at v) = Err (Over (Stuck at))
value_in _ = Err NoMemory

-- what a call came to
abbrev pub return_in : Task → Result (Unit {0}) Stop
return_in (Throw at v) = Err (Over (Stuck at))
return_in _ = Ok tt
