-- Steps by the innermost frame, and steps of a run by their task.
use Rattle.std.proofs.Common.{◌≡◌, sym, ◌∙◌, subst, ℕ, List, [], ◌∷◌, ◌++◌}
use Rattle.std.specs.Prelude.{Result, Ok, Err}
use Rattle.std.specs.Result.{IsErrAnd}
use Rattle.std.proofs.lemmas.List.{append-nil}
use Rattle.gj_base.specs.Sink.{SinkState}
use Rattle.js_tree.specs.Evaluate.{Setting}
use Rattle.js_steps.specs.declared.frames.frame.Frame.{Frame}
use Rattle.js_steps.specs.declared.frames.frame.Halt.{Halt}
use Rattle.js_steps.specs.declared.frames.frame.Task.{Task}
use Rattle.js_steps.specs.declared.frames.state.Env.{Env}
use Rattle.js_steps.specs.declared.frames.state.State.{State}
use Rattle.js_steps.specs.Moment.{Moment, Out}
use Rattle.js_steps.specs.Stack.{task_does}
use Rattle.js_steps.specs.Stands.{Steps, StepsIn}
use Rattle.js_steps.specs.StepLaws.{goes}
use Rattle.js_run.specs.declared.walks.stop.Stop.{Stop}
use Rattle.js_run.specs.Stops.{next_of}
use Rattle.js_run.specs.Walks.{Walks}
use Rattle.js_run.specs.WalkLaws.{walks_step}

-- the innermost frame was taken
pub taken_in : (env : Env) (old stack new : List Frame) (s s1 : State) (r : Result Task Halt) (f : Frame) (part : Setting → Moment → Out) → old ≡ stack ++ f ∷ [] → StepsIn env (stack ++ f ∷ []) s new s1 r part
    → StepsIn env old s new s1 r part
taken_in env old stack new s s1 r f part e steps = subst (λ (fs : List Frame). StepsIn env fs s new s1 r part) (sym e) steps

pub taken : (old stack new : List Frame) (s s1 : State) (r : Result Task Halt) (f : Frame) (part : Setting → Moment → Out) → old ≡ stack ++ f ∷ [] → Steps (stack ++ f ∷ []) s new s1 r part → Steps old s new s1 r part
taken old stack new s s1 r f part e steps = subst (λ (fs : List Frame). Steps fs s new s1 r part) (sym e) steps

-- there is none
pub none_taken : (old stack : List Frame) (s : State) (t : Task) → old ≡ stack ++ [] → Steps old s stack s (Ok t) (λ st. task_does st t)
none_taken old stack s t e =
    subst (λ (fs : List Frame). Steps old s fs s (Ok t) (λ st. task_does st t)) (e ∙ append-nil stack) (λ script choices fuel b vs h. goes script choices fuel b vs old s t h)

-- a step that needs no functions
pub any_env : (env : Env) (old new : List Frame) (s s1 : State) (r : Result Task Halt) (part : Setting → Moment → Out) → Steps old s new s1 r part → StepsIn env old s new s1 r part
any_env env old new s s1 r part steps = λ script choices fuel b vs program h. steps script choices fuel b vs h

-- a step of a run by its task
pub by_task : (env : Env) (old new : List Frame) (s s1 : State) (numbers : List ℕ) (sink : SinkState) (task t : Task) (step : Result Task Halt) (r : Result Task Stop) → task ≡ t → r ≡ next_of step
    → StepsIn env old s new s1 step (λ st. task_does st t) → Walks env old s numbers numbers sink sink new s1 r (λ st. task_does st task)
by_task env old new s s1 numbers sink task t step r e q steps =
    subst (λ (x : Task). Walks env old s numbers numbers sink sink new s1 r (λ st. task_does st x)) (sym e)
    (subst (λ (y : Result Task Stop). Walks env old s numbers numbers sink sink new s1 y (λ st. task_does st t)) (sym q) (walks_step env old new s s1 numbers sink t step steps))

pub with_task : (env : Env) (old new : List Frame) (s s1 : State) (t0 t1 : List ℕ) (k k1 : SinkState) (task t : Task) (r : Result Task Stop) → task ≡ t
    → Walks env old s t0 t1 k k1 new s1 r (λ st. task_does st t) → Walks env old s t0 t1 k k1 new s1 r (λ st. task_does st task)
with_task env old new s s1 t0 t1 k k1 task t r e w = subst (λ (x : Task). Walks env old s t0 t1 k k1 new s1 r (λ st. task_does st x)) (sym e) w

-- steps that end as a call of them did
pub ends_so : (env : Env) (old new : List Frame) (s s1 : State) (t0 t1 : List ℕ) (k k1 : SinkState) (part : Setting → Moment → Out) (x : Stop) (r : Result Task Stop) → IsErrAnd r (λ y. y ≡ x)
    → Walks env old s t0 t1 k k1 new s1 (Err x) part → Walks env old s t0 t1 k k1 new s1 r part
ends_so env old new s s1 t0 t1 k k1 part x (Ok t) h w = absurd h
ends_so env old new s s1 t0 t1 k k1 part x (Err y) h w = subst (λ (z : Stop). Walks env old s t0 t1 k k1 new s1 (Err z) part) (sym h) w
