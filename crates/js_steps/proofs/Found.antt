-- The value of an expression that is found at once.
use Rattle.std.proofs.Common.{◌≡◌, ap, sym, ◌∙◌, subst, ℕ, List}
use Rattle.std.specs.Prelude.{Result, Ok, Err}
use Rattle.std.specs.Result.{IsErrAnd}
use Rattle.js_tree.specs.Value.{gives}
use Rattle.js_tree.specs.Evaluate.{setting}
use Rattle.js_code.specs.Parts.{expr_at}
use Rattle.js_value.specs.HeapSeen.{value_of}
use Rattle.js_value.specs.declared.heap.value.Value as held
use Rattle.js_steps.specs.declared.frames.frame.Frame.{Frame}
use Rattle.js_steps.specs.declared.frames.frame.Halt.{Halt}
use Rattle.js_steps.specs.declared.frames.frame.Halt.TheVariants.{NoMemory, Over}
use Rattle.js_steps.specs.declared.frames.frame.Task.{Task}
use Rattle.js_steps.specs.declared.frames.frame.Task.TheVariants.{Give}
use Rattle.js_steps.specs.declared.frames.state.Env.{Env}
use Rattle.js_steps.specs.declared.frames.state.State.{State}
use Rattle.js_steps.specs.Moment.{value, valued, expr_does}
use Rattle.js_steps.specs.Stands.{Finds, OnlyObjects, StepsIn, moment}
use Rattle.js_steps.specs.StateLaws.{moment_objects, stands_objects}
use Rattle.js_steps.specs.StepLaws.{goes_as, stops}
use Rattle.js_steps.specs.FoundLaws.{value_at}

pub found_in : (env : Env) (stack : List Frame) (s s1 : State) (i : ℕ) (v : held.Value) → OnlyObjects s s1 → Finds value_of s s1 (let q : Result held.Value Halt = Ok v in q) (value_at i)
    → StepsIn env stack s stack s1 (Ok (Give v)) (λ st m. expr_does st (expr_at m.trees i) m)
found_in env stack s s1 i v h f = λ script choices fuel b vs program stands.
    let m = moment b vs s in
    goes_as script choices fuel b vs stack s1 (Give v) (expr_does (setting script choices fuel) (expr_at m.trees i) m)
    (sym (ap (valued m) (f script choices fuel b vs stack stands) ∙ ap (gives (value (value_of v))) (sym (moment_objects b vs s s1 h))))
    (stands_objects script fuel vs stack s s1 h stands)

stopped : (env : Env) (stack : List Frame) (s s1 : State) (x : Halt) (i : ℕ) → Finds value_of s s1 (let q : Result held.Value Halt = Err x in q) (value_at i)
    → StepsIn env stack s stack s1 (Err x) (λ st m. expr_does st (expr_at m.trees i) m)
stopped env stack s s1 NoMemory i f = λ script choices fuel b vs program stands. tt
stopped env stack s s1 (Over e) i f = λ script choices fuel b vs program stands.
    let m = moment b vs s in
    stops script choices fuel b vs stack s1 e (expr_does (setting script choices fuel) (expr_at m.trees i) m) (ap (valued m) (f script choices fuel b vs stack stands))

pub found_none : (env : Env) (stack : List Frame) (s s1 : State) (r : Result Task Halt) (x : Halt) (i : ℕ) → IsErrAnd r (λ y. y ≡ x) → Finds value_of s s1 (let q : Result held.Value Halt = Err x in q) (value_at i)
    → StepsIn env stack s stack s1 r (λ st m. expr_does st (expr_at m.trees i) m)
found_none env stack s s1 (Ok t) x i h f = absurd h
found_none env stack s s1 (Err y) x i h f = subst (λ (z : Halt). StepsIn env stack s stack s1 (Err z) (λ st m. expr_does st (expr_at m.trees i) m)) (sym h) (stopped env stack s s1 x i f)
