-- Own: that what a run keeps stands for what the definitions speak of, and what a step keeps: all that is left to be done.
use Rattle.std.specs.Prelude.{◌≡◌, ◌≤◌, ◌<◌, ℕ, suc, List, [], ◌∷◌, Result, Ok, Err}
use Rattle.std.specs.Borrow.{Bor}
use Rattle.js_tree.specs.Script.{Name, ScriptTree}
use Rattle.js_tree.specs.Value.{Value, World, Locals, Outcome, gives, over}
use Rattle.js_tree.specs.Evaluate.{Setting, setting}
use Rattle.js_tree.specs.declared.tree.JsFunction.{JsFunction}
use Rattle.js_code.specs.Names.{distinct, global_names}
use Rattle.js_code.specs.Slots.{slots_of, OnlyGlobals}
use Rattle.js_code.specs.Parts.{trees_of}
use Rattle.js_value.specs.HeapSeen.{objects_of}
use Rattle.js_simple.specs.Seen.{slots_in}
use Rattle.js_steps.specs.Bodies.{IsBody, IsFunction, IsProgram, names_in}
use Rattle.js_steps.specs.declared.bodies.body.Body.{Body}
use Rattle.js_steps.specs.declared.frames.frame.Frame.{Frame}
use Rattle.js_steps.specs.declared.frames.frame.Frame.TheVariants as waiting
use Rattle.js_steps.specs.declared.frames.frame.Task.{Task}
use Rattle.js_steps.specs.declared.frames.frame.Halt.{Halt}
use Rattle.js_steps.specs.declared.frames.frame.Halt.TheVariants.{NoMemory, Over}
use Rattle.js_steps.specs.declared.frames.state.Env.{Env}
use Rattle.js_steps.specs.declared.frames.state.State.{State}
use Rattle.js_steps.specs.declared.frames.frame.End.TheVariants.{Going}
use Rattle.js_steps.specs.Moment.{Moment, Out}
use Rattle.js_steps.specs.Stack.{scope_in, after_frame, resume, task_does, end_of}

-- what was printed, and how many numbers were taken
pub record Before : Type 0 where
  pub printed : List ℕ
  pub taken : ℕ

-- the variables that have been set, by their names: those at the top, those of the call that runs, and those of its callers from the outermost on
pub record Variables : Type 0 where
  pub globals : List (Name × Value)
  pub locals : Locals
  pub callers : List Locals

-- the variables of a caller are in their slots
abbrev pub CallerStands : ScriptTree → Frame → List Locals → Type 0
CallerStands script (waiting.Leave at u k) [] = ⊥
CallerStands script (waiting.Leave at u k) (ls ∷ rest) = IsBody script k.body.now × (slots_of (distinct (names_in k.body.now)) ls ≡ slots_in k.locals.items)
CallerStands script _ callers = Unit {0}

-- the same for all callers
abbrev pub CallersStand : ScriptTree → List Frame → List Locals → Type 0
CallersStand script [] callers = callers ≡ []
CallersStand script (f ∷ fs) callers = CallerStands script f callers × CallersStand script fs (after_frame f callers)

-- what a run keeps holds these variables
pub record Stands (script : ScriptTree) (fuel : ℕ) (vs : Variables) (stack : List Frame) (s : State) : Type 0 where
  pub body : IsBody script s.body.now
  pub locals : slots_of (distinct (names_in s.body.now)) vs.locals ≡ slots_in s.locals.items
  pub globals : slots_of (distinct (global_names script.items)) vs.globals ≡ slots_in s.globals.items
  pub only : OnlyGlobals script vs.globals
  pub callers : CallersStand script stack vs.callers
  pub few : s.left ≤ fuel

-- the world of a run
abbrev pub world_of : Before → Variables → State → World
world_of b vs s = record { left = s.left; printed = b.printed; taken = b.taken; objects = objects_of s.objects.items; globals = vs.globals }

-- where a run is
abbrev pub moment : Before → Variables → State → Moment
moment b vs s = record { trees = trees_of s.body.now.code; scope = scope_in s.body.now s.caught; locals = vs.locals; world = world_of b vs s }

-- what is left to be done, by the stack and by what is done next, is this
pub record Leads (script : ScriptTree) (choices : List ℕ) (fuel : ℕ) (b : Before) (all : Out) (stack : List Frame) (s : State) (t : Task) : Type 0 where
  pub variables : Variables
  pub stands : Stands script fuel variables stack s
  pub is : resume (setting script choices fuel) stack variables.callers (task_does (setting script choices fuel) t (moment b variables s)) ≡ all

-- after a step what is left to be done is what was; want of memory says nothing
abbrev pub Keeps : ScriptTree → List ℕ → ℕ → Before → Out → List Frame → State → Result Task Halt → Type 0
Keeps script choices fuel b all stack s (Ok t) = Leads script choices fuel b all stack s t
Keeps script choices fuel b all stack s (Err NoMemory) = Unit {0}
Keeps script choices fuel b all stack s (Err (Over e)) = (vs : Variables) × (over (end_of e) (world_of b vs s) ≡ all)

-- from here to there, what is left to be done is what a part does, and then what the stack does
abbrev pub Steps : List Frame → State → List Frame → State → Result Task Halt → (Setting → Moment → Out) → Type 0
Steps old s new s' r part =
    (script : ScriptTree) (choices : List ℕ) (fuel : ℕ) (b : Before) (vs : Variables) → Stands script fuel vs old s
    → Keeps script choices fuel b (resume (setting script choices fuel) old vs.callers (part (setting script choices fuel) (moment b vs s))) new s' r

-- the same, with the functions of the script
abbrev pub StepsIn : Env → List Frame → State → List Frame → State → Result Task Halt → (Setting → Moment → Out) → Type 0
StepsIn env old s new s' r part =
    (script : ScriptTree) (choices : List ℕ) (fuel : ℕ) (b : Before) (vs : Variables) → IsProgram script env.functions.now → Stands script fuel vs old s
    → Keeps script choices fuel b (resume (setting script choices fuel) old vs.callers (part (setting script choices fuel) (moment b vs s))) new s' r

-- the same, of a function whose code is known
abbrev pub StepsOf : Bor JsFunction → Body → List Frame → State → List Frame → State → Result Task Halt → (Setting → Moment → Out) → Type 0
StepsOf f body old s new s' r part =
    (script : ScriptTree) (choices : List ℕ) (fuel : ℕ) (b : Before) (vs : Variables) → IsFunction script body f → Stands script fuel vs old s
    → Keeps script choices fuel b (resume (setting script choices fuel) old vs.callers (part (setting script choices fuel) (moment b vs s))) new s' r

-- the same after a tick
abbrev pub StepsInto : Bor JsFunction → Body → List Frame → State → List Frame → State → Result Task Halt → (Setting → Moment → Out) → Type 0
StepsInto f body old s new s' r part =
    (script : ScriptTree) (choices : List ℕ) (fuel : ℕ) (b : Before) (vs : Variables) → s.left < fuel → IsFunction script body f → Stands script fuel vs old s
    → Keeps script choices fuel b (resume (setting script choices fuel) old vs.callers (part (setting script choices fuel) (moment b vs s))) new s' r

-- what was found at once, in this world
abbrev pub Found : {A B : Type 0} → (A → B) → Result A Halt → World → Outcome World B → Type 0
Found view (Ok a) w o = o ≡ gives (view a) w
Found view (Err NoMemory) w o = Unit {0}
Found view (Err (Over e)) w o = o ≡ over (end_of e) w

-- what a part of a script comes to, where no tick is taken and no variable is set
abbrev pub Finds : {A B : Type 0} → (A → B) → State → State → Result A Halt → (Setting → Moment → Outcome World B) → Type 0
Finds view s s' r part =
    (script : ScriptTree) (choices : List ℕ) (fuel : ℕ) (b : Before) (vs : Variables) (stack : List Frame) → Stands script fuel vs stack s
    → Found view r (world_of b vs s') (part (setting script choices fuel) (moment b vs s))

-- only arrays and dictionaries, and the lists that calls leave, are others
pub record OnlyObjects (s s' : State) : Type 0 where
  pub left : s'.left ≡ s.left
  pub globals : s'.globals ≡ s.globals
  pub body : s'.body ≡ s.body
  pub locals : s'.locals ≡ s.locals
  pub caught : s'.caught ≡ s.caught

-- a tick, where one was left
abbrev pub Ticked : State → State → Result (Unit {0}) Halt → Type 0
Ticked s s' (Ok _) = (s.left ≡ suc s'.left) × (s' ≡ record s { left = s'.left })
Ticked s s' (Err e) = (s.left ≡ 0) × (s' ≡ s) × (e ≡ Over Going)
