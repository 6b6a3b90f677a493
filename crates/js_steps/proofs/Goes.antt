-- Steps that stop, and steps of parts that do the same.
use Rattle.std.proofs.Common.{◌≡◌, ap, sym, ◌∙◌, subst, ℕ, List, Option, Some, None, option_map}
use Rattle.std.specs.Prelude.{Result, Ok, Err}
use Rattle.std.specs.Result.{IsErrAnd}
use Rattle.js_tree.specs.Script.{ScriptTree}
use Rattle.js_tree.specs.Value as run
use Rattle.js_tree.specs.Value.{gives, over}
use Rattle.js_tree.specs.Evaluate.{Setting, setting}
use Rattle.js_value.specs.HeapSeen.{value_of}
use Rattle.js_value.specs.declared.heap.value.Value as held
use Rattle.js_steps.specs.declared.frames.frame.End.TheVariants as end
use Rattle.js_steps.specs.declared.frames.frame.Flow.TheVariants as step_flow
use Rattle.js_steps.specs.declared.frames.frame.Frame.{Frame}
use Rattle.js_steps.specs.declared.frames.frame.Halt.{Halt}
use Rattle.js_steps.specs.declared.frames.frame.Halt.TheVariants.{NoMemory, Over}
use Rattle.js_steps.specs.declared.frames.frame.Task.{Task}
use Rattle.js_steps.specs.declared.frames.frame.Task.TheVariants as next
use Rattle.js_steps.specs.declared.frames.frame.Use.{Use}
use Rattle.js_steps.specs.declared.frames.frame.Use.TheVariants.{Needed, Dropped}
use Rattle.js_steps.specs.declared.frames.state.State.{State}
use Rattle.js_steps.specs.Moment.{Moment, Out, called_here}
use Rattle.js_steps.specs.Stack.{resume}
use Rattle.js_steps.specs.Stands.{Before, Keeps, Steps, moment, world_of}
use Rattle.js_steps.specs.StepLaws.{goes, stops}

-- want of memory says nothing
pub none_kept : (script : ScriptTree) (choices : List ℕ) (fuel : ℕ) (b : Before) (all : Out) (stack : List Frame) (s : State) (r : Result Task Halt)
    → IsErrAnd r (λ y. y ≡ NoMemory) → Keeps script choices fuel b all stack s r
none_kept script choices fuel b all stack s (Ok t) h = absurd h
none_kept script choices fuel b all stack s (Err y) h = subst (λ (z : Halt). Keeps script choices fuel b all stack s (Err z)) (sym h) tt

-- the reason is handed on
pub same_kept : (script : ScriptTree) (choices : List ℕ) (fuel : ℕ) (b : Before) (all : Out) (stack : List Frame) (s : State) (r : Result Task Halt) (x : Halt)
    → IsErrAnd r (λ y. y ≡ x) → Keeps script choices fuel b all stack s (Err x) → Keeps script choices fuel b all stack s r
same_kept script choices fuel b all stack s (Ok t) x h k = absurd h
same_kept script choices fuel b all stack s (Err y) x h k = subst (λ (z : Halt). Keeps script choices fuel b all stack s (Err z)) (sym h) k

-- a part without a meaning
pub stuck : (stack : List Frame) (s : State) (at : ℕ) (part : Setting → Moment → Out) → ((st : Setting) (m : Moment) → part st m ≡ over (run.Stuck at) m.world)
    → Steps stack s stack s (Err (Over (end.Stuck at))) part
stuck stack s at part e = λ script choices fuel b vs h.
    stops script choices fuel b vs stack s (end.Stuck at) (part (setting script choices fuel) (moment b vs s)) (e (setting script choices fuel) (moment b vs s))

-- a call that a statement drops, one that gives a value, and one that lacks it
pub drops : (stack : List Frame) (s : State) (at : ℕ) (u : Use) (o : Option held.Value) → u ≡ Dropped
    → Steps stack s stack s (Ok (next.Follow step_flow.Onward)) (λ _ m. called_here at u m (gives (option_map value_of o) m.world))
drops stack s at u o e = λ script choices fuel b vs h.
    subst (λ (x : Use). Keeps script choices fuel b (resume (setting script choices fuel) stack vs.callers (called_here at x (moment b vs s) (gives (option_map value_of o) (world_of b vs s)))) stack s (Ok (next.Follow step_flow.Onward)))
    (sym e) (goes script choices fuel b vs stack s (next.Follow step_flow.Onward) h)

pub gives_back : (stack : List Frame) (s : State) (at : ℕ) (u : Use) (o : Option held.Value) (v : held.Value) → u ≡ Needed → o ≡ Some v
    → Steps stack s stack s (Ok (next.Give v)) (λ _ m. called_here at u m (gives (option_map value_of o) m.world))
gives_back stack s at u o v e k = λ script choices fuel b vs h.
    subst (λ (x : Use). Keeps script choices fuel b (resume (setting script choices fuel) stack vs.callers (called_here at x (moment b vs s) (gives (option_map value_of o) (world_of b vs s)))) stack s (Ok (next.Give v)))
    (sym e)
    (subst (λ (x : Option held.Value). Keeps script choices fuel b (resume (setting script choices fuel) stack vs.callers (called_here at Needed (moment b vs s) (gives (option_map value_of x) (world_of b vs s)))) stack s (Ok (next.Give v)))
    (sym k) (goes script choices fuel b vs stack s (next.Give v) h))

pub lacks : (stack : List Frame) (s : State) (at : ℕ) (u : Use) (o : Option held.Value) → u ≡ Needed → o ≡ None
    → Steps stack s stack s (Err (Over (end.Stuck at))) (λ _ m. called_here at u m (gives (option_map value_of o) m.world))
lacks stack s at u o e k =
    stuck stack s at (λ _ m. called_here at u m (gives (option_map value_of o) m.world))
    (λ st m. ap (λ (x : Use). called_here at x m (gives (option_map value_of o) m.world)) e ∙ ap (λ (x : Option held.Value). called_here at Needed m (gives (option_map value_of x) m.world)) k)
