-- Own: what is left to be done after steps that print and take numbers.
use Rattle.std.specs.Prelude.{◌≡◌, ◌<◌, ◌+◌, ◌++◌, ℕ, List, Result, Ok, Err, length, slice_index}
use Rattle.std.specs.Borrow.{Bor}
use Rattle.gj_base.specs.Sink.{SinkState, appended, FailedIn}
use Rattle.js_tree.specs.Script.{ScriptTree}
use Rattle.js_tree.specs.Value.{over}
use Rattle.js_tree.specs.Evaluate.{Setting, setting, choice_number}
use Rattle.js_steps.specs.Bodies.{IsProgram}
use Rattle.js_steps.specs.declared.frames.frame.Frame.{Frame}
use Rattle.js_steps.specs.declared.frames.frame.Task.{Task}
use Rattle.js_steps.specs.declared.frames.frame.Task.TheVariants.{Write}
use Rattle.js_steps.specs.declared.frames.frame.Use.{Use}
use Rattle.js_steps.specs.declared.frames.state.Env.{Env}
use Rattle.js_steps.specs.declared.frames.state.State.{State}
use Rattle.js_steps.specs.Moment.{Moment, Out}
use Rattle.js_steps.specs.Stack.{end_of, resume}
use Rattle.js_steps.specs.Stands.{Before, Variables, Stands, Leads, moment, world_of}
use Rattle.js_run.specs.declared.walks.stop.Stop.{Stop}
use Rattle.js_run.specs.declared.walks.stop.Stop.TheVariants.{WriteFault, NoMemory, Over}

-- the numbers of a list from a place on are these
abbrev pub Agrees : (choices : List ℕ) → ℕ → (numbers : List ℕ) → Type 0
Agrees choices place numbers = (i : ℕ) → i < length numbers → choice_number choices (place + i) ≡ slice_index numbers i

-- what was printed, and how many numbers were taken, on the way from one point of a run to another
pub record Moves (b b' : Before) (numbers : List ℕ) (sink sink' : SinkState) : Type 0 where
  pub count : b'.taken ≡ b.taken + length numbers
  pub piece : List ℕ
  pub printed : b'.printed ≡ b.printed ++ piece
  pub written : sink' ≡ appended sink piece

-- a point of the run that was reached, from which all is left to be done
pub record Reaches (script : ScriptTree) (choices : List ℕ) (fuel : ℕ) (b : Before) (all : Out) (numbers : List ℕ) (sink sink' : SinkState) (t : Task) : Type 0 where
  pub before : Before
  pub moves : Moves b before numbers sink sink'
  pub stack : List Frame
  pub state : State
  pub leads : Leads script choices fuel before all stack state t

-- memory was refused, and the sink has what it had
pub record KeptIn (sink sink' : SinkState) : Type 0 where
  pub bytes : sink'.bytes ≡ sink.bytes
  pub faults : sink'.faults ≡ sink.faults

-- after the steps all that is left to be done is what was; or the run is over; or the sink failed in a text that was to be printed then, with a tick left for it; or memory was refused at some point that the steps had reached
abbrev pub Goes : ScriptTree → List ℕ → ℕ → Before → Out → (numbers : List ℕ) → (sink sink' : SinkState) → List Frame → State → Result Task Stop → Type 0
Goes script choices fuel b all numbers sink sink' stack s (Ok t) = (b' : Before) × Moves b b' numbers sink sink' × Leads script choices fuel b' all stack s t
Goes script choices fuel b all numbers sink sink' stack s (Err (Over e)) =
    (b' : Before) × Moves b b' numbers sink sink' × ((vs : Variables) × (over (end_of e) (world_of b' vs s) ≡ all))
Goes script choices fuel b all numbers sink sink' stack s (Err WriteFault) =
    (sink1 : SinkState) × ((at : ℕ) × (u : Use) × (text : Bor (List ℕ)) × (r : Reaches script choices fuel b all numbers sink sink1 (Write at u text)) × (0 < r.state.left) × FailedIn text.now sink1 sink')
Goes script choices fuel b all numbers sink sink' stack s (Err NoMemory) =
    (sink1 : SinkState) × ((t : Task) × Reaches script choices fuel b all numbers sink sink1 t × KeptIn sink1 sink')

-- what the steps from here to there do, for each list that has the numbers which they take
pub record Walks (env : Env) (old : List Frame) (s : State) (taken taken' : List ℕ) (sink sink' : SinkState) (new : List Frame) (s' : State) (r : Result Task Stop) (part : Setting → Moment → Out) : Type 0 where
  pub numbers : List ℕ
  pub took : taken' ≡ taken ++ numbers
  pub goes : (script : ScriptTree) (choices : List ℕ) (fuel : ℕ) (b : Before) (vs : Variables) → IsProgram script env.functions.now → Stands script fuel vs old s
      → Agrees choices b.taken numbers
      → Goes script choices fuel b (resume (setting script choices fuel) old vs.callers (part (setting script choices fuel) (moment b vs s))) numbers sink sink' new s' r
