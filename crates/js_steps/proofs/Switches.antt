-- The cases of a `switch`, from the one that a value leads to on.
use Rattle.std.proofs.Common.{◌≡◌, refl, ap, sym, ◌∙◌, subst, ℕ, List, [], Option}
use Rattle.std.specs.Prelude.{Result}
use Rattle.std.specs.Borrow.{Bor}
use Rattle.js_tree.specs.Script.{Name}
use Rattle.js_tree.specs.Value as run
use Rattle.js_tree.specs.Value.{Value, Outcome, and_then}
use Rattle.js_tree.specs.Evaluate.{Setting, setting, Scope, Flow, exec_cases, exec_through, after_switch}
use Rattle.js_code.specs.Places.{table_of}
use Rattle.js_code.specs.Parts.{cases_at, trees_of}
use Rattle.js_simple.specs.Simple.{IsSomeCode}
use Rattle.js_steps.specs.Bodies.{names_in}
use Rattle.js_steps.specs.declared.frames.frame.Frame.{Frame}
use Rattle.js_steps.specs.declared.frames.frame.Frame.TheVariants as waiting
use Rattle.js_steps.specs.declared.frames.frame.Halt.{Halt}
use Rattle.js_steps.specs.declared.frames.frame.Task.{Task}
use Rattle.js_steps.specs.declared.frames.frame.Task.TheVariants as next_task
use Rattle.js_steps.specs.declared.frames.state.State.{State}
use Rattle.js_steps.specs.Moment.{Out, frame_in, flowing}
use Rattle.js_steps.specs.Stack.{label_of, frame_does, resume, task_does}
use Rattle.js_steps.specs.Stands.{Keeps, Steps, moment}
use Rattle.js_steps.proofs.Turns.{flow_goes_on}

-- from the case that a value leads to on, cases do the same
abbrev pub LeadsTo : State → ℕ → Value → ℕ → Type 0
LeadsTo s cases v place =
    IsSomeCode s.body.now.code → (st : Setting) (sc : Scope) (f : run.Frame)
    → exec_cases st sc (cases_at (trees_of s.body.now.code) cases) v f ≡ exec_through st sc (cases_at (trees_of s.body.now.code) place) f

pub switch_step : (stack new : List Frame) (s : State) (r : Result Task Halt) (x : Option (Bor Name)) (label : Option Name) (cases place : ℕ) (v : Value) → label_of x ≡ label → LeadsTo s cases v place
    → Steps stack s new s r (λ st m. frame_does st (waiting.Switch x) [] (task_does st (next_task.Through place) m))
    → Steps stack s new s r (λ st m. flowing m (and_then (exec_cases st m.scope (cases_at m.trees cases) v (frame_in m)) (after_switch label)))
switch_step stack new s r x label cases place v q leads k = λ script choices fuel b vs stands.
    let st = setting script choices fuel in
    let m = moment b vs s in
    let all = exec_through st m.scope (cases_at m.trees place) (frame_in m) in
    let e : flowing m (and_then (exec_cases st m.scope (cases_at m.trees cases) v (frame_in m)) (after_switch label)) ≡ frame_does st (waiting.Switch x) [] (task_does st (next_task.Through place) m) =
    ap (λ (o : Outcome run.Frame Flow). flowing m (and_then o (after_switch label))) (leads (table_of script (names_in s.body.now), stands.body.code) st m.scope (frame_in m))
    ∙ ap (λ (l : Option Name). flowing m (and_then all (after_switch l))) (sym q)
    ∙ flow_goes_on m all (after_switch (label_of x)) (λ y n. flowing n (after_switch (label_of x) y (frame_in n))) (λ y f. refl) in
    subst (λ (o : Out). Keeps script choices fuel b (resume st stack vs.callers o) new s r) (sym e) (k script choices fuel b vs stands)
