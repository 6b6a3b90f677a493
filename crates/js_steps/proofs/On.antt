-- What goes on through a frame that waits for something else.
use Rattle.std.proofs.Common.{◌≡◌, refl, ap, sym, ◌∙◌, subst, ℕ, List, [], ◌∷◌, ◌++◌}
use Rattle.std.specs.Prelude.{Result, Ok}
use Rattle.std.proofs.lemmas.List.{map-append}
use Rattle.js_tree.specs.Value.{gives}
use Rattle.js_tree.specs.Evaluate.{Setting, setting, Flow, returns, onward, breaks, continues}
use Rattle.js_value.specs.HeapSeen.{value_of, values_of}
use Rattle.js_value.specs.declared.heap.value.Value as held
use Rattle.js_steps.specs.declared.frames.frame.Flow as step
use Rattle.js_steps.specs.declared.frames.frame.Frame.{Frame}
use Rattle.js_steps.specs.declared.frames.frame.Halt.{Halt}
use Rattle.js_steps.specs.declared.frames.frame.Task.{Task}
use Rattle.js_steps.specs.declared.frames.frame.Task.TheVariants.{Give, Follow}
use Rattle.js_steps.specs.declared.frames.frame.Use.{Use}
use Rattle.js_steps.specs.declared.frames.state.Env.{Env}
use Rattle.js_steps.specs.declared.frames.state.State.{State}
use Rattle.js_steps.specs.Moment.{Moment, value, flow, Out, called_here}
use Rattle.js_steps.specs.Stack.{IsNoCall, flow_of, frame_does, left, task_does}
use Rattle.js_steps.specs.Stands.{Steps, StepsIn, moment}
use Rattle.js_steps.specs.StepLaws.{goes_as}
use Rattle.js_steps.specs.Returned.{returned}
use Rattle.js_steps.specs.PopLaws.{pops, pops_in, steps_in}

-- a step of the stack whose innermost frame is known
pub in_frame : (env : Env) (stack new : List Frame) (s s' : State) (r : Result Task Halt) (f w : Frame) (part : Setting → Moment → Out) → f ≡ w → StepsIn env (stack ++ w ∷ []) s new s' r part → StepsIn env (stack ++ f ∷ []) s new s' r part
in_frame env stack new s s' r f w part is k = subst (λ (g : Frame). StepsIn env (stack ++ g ∷ []) s new s' r part) (sym is) k

pub with_frame : (stack new : List Frame) (s s' : State) (r : Result Task Halt) (f w : Frame) (part : Setting → Moment → Out) → f ≡ w → Steps (stack ++ w ∷ []) s new s' r part → Steps (stack ++ f ∷ []) s new s' r part
with_frame stack new s s' r f w part is k = subst (λ (g : Frame). Steps (stack ++ g ∷ []) s new s' r part) (sym is) k

-- a task where the run is
pub task_here : (stack : List Frame) (s : State) (t : Task) (part : Setting → Moment → Out) → ((st : Setting) (m : Moment) → part st m ≡ task_does st t m) → Steps stack s stack s (Ok t) part
task_here stack s t part e = λ script choices fuel b vs stands.
    goes_as script choices fuel b vs stack s t (part (setting script choices fuel) (moment b vs s)) (sym (e (setting script choices fuel) (moment b vs s))) stands

-- a value, and a completion, which a frame hands on
pub given_on : (env : Env) (stack : List Frame) (s : State) (f w : Frame) (v : held.Value) → f ≡ w → IsNoCall w → ((st : Setting) (m : Moment) → frame_does st w [] (gives (value (value_of v)) m) ≡ gives (value (value_of v)) m)
    → StepsIn env (stack ++ f ∷ []) s stack s (Ok (Give v)) (λ _. gives (value (value_of v)))
given_on env stack s f w v is n e =
    let part : Setting → Moment → Out = λ _. gives (value (value_of v)) in
    in_frame env stack stack s s (Ok (Give v)) f w part is
    (pops_in env stack stack s s (Ok (Give v)) w part part n e (steps_in env stack stack s s (Ok (Give v)) part (task_here stack s (Give v) part (λ st m. refl))))

pub followed_on : (stack : List Frame) (s : State) (f w : Frame) (x : step.Flow) → f ≡ w → IsNoCall w → ((st : Setting) (m : Moment) → frame_does st w [] (gives (flow (flow_of x)) m) ≡ gives (flow (flow_of x)) m)
    → Steps (stack ++ f ∷ []) s stack s (Ok (Follow x)) (λ _. gives (flow (flow_of x)))
followed_on stack s f w x is n e =
    let part : Setting → Moment → Out = λ _. gives (flow (flow_of x)) in
    with_frame stack stack s s (Ok (Follow x)) f w part is
    (pops stack stack s s (Ok (Follow x)) w part part n (λ script choices fuel b vs _. e (setting script choices fuel) (moment b vs s)) (task_here stack s (Follow x) part (λ st m. refl)))

-- one more value
pub one_more : (done new : List held.Value) (v : held.Value) → new ≡ done ++ v ∷ [] → values_of new ≡ values_of done ++ value_of v ∷ []
one_more done new v h = ap values_of h ∙ map-append value_of done (v ∷ [])

-- what a call comes to when its body was completed
pub left_flow : (at : ℕ) (u : Use) (x : Flow) (m : Moment) → left at u (gives (flow x) m) ≡ called_here at u m (gives (returned x) m.world)
left_flow at u onward m = refl
left_flow at u (breaks l) m = refl
left_flow at u (continues l) m = refl
left_flow at u (returns v) m = refl
