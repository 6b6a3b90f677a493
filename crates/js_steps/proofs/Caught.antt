-- What was thrown, and the blocks after `catch`.
use Rattle.std.proofs.Common.{◌≡◌, refl, sym, ap, subst, ℕ, List, [], ◌∷◌, ◌++◌, Option, Some}
use Rattle.std.specs.Prelude.{Result, Ok, Err, OnOk, option_map}
use Rattle.js_tree.specs.Value.{Value, Outcome, gives, throws, over}
use Rattle.js_tree.specs.Value as run
use Rattle.js_tree.specs.Evaluate.{Setting, setting, Flow, exec_all}
use Rattle.js_code.specs.Parts.{stmts_at}
use Rattle.js_value.specs.HeapSeen.{value_of}
use Rattle.js_value.specs.declared.heap.value.Value as held
use Rattle.js_steps.specs.declared.frames.frame.Frame.{Frame}
use Rattle.js_steps.specs.declared.frames.frame.Frame.TheVariants as frame
use Rattle.js_steps.specs.declared.frames.frame.Halt.{Halt}
use Rattle.js_steps.specs.declared.frames.frame.Task.{Task}
use Rattle.js_steps.specs.declared.frames.frame.Task.TheVariants as next_task
use Rattle.js_steps.specs.declared.frames.state.State.{State}
use Rattle.js_steps.specs.Moment.{Moment, flow, Out, frame_in, flowing}
use Rattle.js_steps.specs.Stack.{IsNoCall, back_in, caught_before, frame_does, handled, resume, task_does}
use Rattle.js_steps.specs.Stands.{Keeps, Steps, moment}
use Rattle.js_steps.specs.StepLaws.{goes_as}
use Rattle.js_steps.specs.PopLaws.{with_caught, pops, stands_caught}

-- whatever was answered
pub on_any : {A E : Type 0} {P : Type 0} (r : Result A E) → P → OnOk r P
on_any (Ok a) p = p
on_any (Err e) p = tt

-- the block after `catch` ends where what was caught before is back
back_same : (m : Moment) (v : Option held.Value) (u : Value) (o : Outcome run.Frame Flow) → m.scope.caught ≡ option_map value_of v
    → back_in (caught_before v) (flowing (record m { scope = record m.scope { caught = Some u } }) o) ≡ back_in (λ n. record n { scope = m.scope }) (flowing (record m { scope = record m.scope { caught = Some u } }) o)
back_same m v u (gives x f) h = ap (λ (c : Option Value). gives (flow x) (record m { scope = record m.scope { caught = c }; locals = f.locals; world = f.world })) (sym h)
back_same m v u (throws j x f) h = ap (λ (c : Option Value). throws j x (record m { scope = record m.scope { caught = c }; locals = f.locals; world = f.world })) (sym h)
back_same m v u (over e w) h = refl

pub handles : (stack new : List Frame) (s : State) (r : Result Task Halt) (handler : ℕ) (v : held.Value) (before : Option held.Value) → before ≡ s.caught
    → Steps stack (with_caught s (Some v)) new (with_caught s (Some v)) r (λ st m. frame_does st (frame.Caught before) [] (task_does st (next_task.Statements handler) m))
    → Steps stack s new (with_caught s (Some v)) r (λ st m. handled st handler (value_of v) m)
handles stack new s r handler v before e k = λ script choices fuel b vs stands.
    let st = setting script choices fuel in
    let m = moment b vs s in
    let n : Moment = record m { scope = record m.scope { caught = Some (value_of v) } } in
    subst (λ (o : Out). Keeps script choices fuel b (resume st stack vs.callers o) new (with_caught s (Some v)) r)
    (back_same m before (value_of v) (exec_all st n.scope (stmts_at n.trees handler) (frame_in n)) (sym (ap (option_map value_of) e)))
    (k script choices fuel b vs (stands_caught script fuel vs stack s (Some v) stands))

-- a throw where the run is
pub thrown_here : (stack : List Frame) (s : State) (at : ℕ) (v : held.Value) → Steps stack s stack s (Ok (next_task.Throw at v)) (λ _. throws at (value_of v))
thrown_here stack s at v = λ script choices fuel b vs stands. goes_as script choices fuel b vs stack s (next_task.Throw at v) (throws at (value_of v) (moment b vs s)) refl stands

-- a throw goes on through a frame that has no block for it
pub thrown_on : (stack : List Frame) (s : State) (f w : Frame) (at : ℕ) (v : held.Value) → f ≡ w → IsNoCall w → ((st : Setting) (m : Moment) → frame_does st w [] (throws at (value_of v) m) ≡ throws at (value_of v) m)
    → Steps (stack ++ f ∷ []) s stack s (Ok (next_task.Throw at v)) (λ _. throws at (value_of v))
thrown_on stack s f w at v is n e =
    subst (λ (g : Frame). Steps (stack ++ g ∷ []) s stack s (Ok (next_task.Throw at v)) (λ _. throws at (value_of v))) (sym is)
    (pops stack stack s s (Ok (next_task.Throw at v)) w (λ _. throws at (value_of v)) (λ _. throws at (value_of v)) n (λ script choices fuel b vs _. e (setting script choices fuel) (moment b vs s)) (thrown_here stack s at v))

-- a step of the stack whose innermost frame is known
pub with_frame : (stack new : List Frame) (s s' : State) (r : Result Task Halt) (f w : Frame) (part : Setting → Moment → Out) → f ≡ w → Steps (stack ++ w ∷ []) s new s' r part → Steps (stack ++ f ∷ []) s new s' r part
with_frame stack new s s' r f w part is k = subst (λ (g : Frame). Steps (stack ++ g ∷ []) s new s' r part) (sym is) k
