-- Values that are found at once: what the context of a run stands for, and what is left to be done then.
use Rattle.std.proofs.Common.{◌≡◌, refl, ap, sym, ◌∙◌, subst, ℕ, List, ◌++◌, option_map, true}
use Rattle.std.specs.Prelude.{Result, Ok, Err}
use Rattle.std.specs.Result.{IsErrAnd}
use Rattle.js_tree.specs.Script.{Exprs, ScriptTree}
use Rattle.js_tree.specs.Value.{Value, World, Locals, Outcome, gives, and_then}
use Rattle.js_tree.specs.Evaluate.{Setting, setting, Scope, eval, eval_all}
use Rattle.js_code.specs.Places.{table_of}
use Rattle.js_code.specs.Parts.{Part, expr_at, exprs_at, trees_of}
use Rattle.js_code.specs.PartClauses.{IsCode}
use Rattle.js_value.specs.HeapSeen.{value_of, values_of, objects_of}
use Rattle.js_value.specs.declared.heap.heap.Object.{Object}
use Rattle.js_value.specs.declared.heap.value.Value as held
use Rattle.js_simple.specs.declared.state.Context.{Context}
use Rattle.js_simple.specs.declared.state.Halt as simple
use Rattle.js_simple.specs.declared.state.Halt.TheVariants as simple_halt
use Rattle.js_simple.specs.Seen as seen
use Rattle.js_simple.specs.Seen.{Point, Does, Gives, world_with, slots_in}
use Rattle.js_simple.specs.PartDoes.{eval_at, eval_all_at}
use Rattle.js_simple.specs.Simple.{IsSimpleAt, AreSimpleAt, mark_at}
use Rattle.js_steps.specs.Bodies.{names_in}
use Rattle.js_steps.specs.declared.bodies.body.Body.{Body}
use Rattle.js_steps.specs.declared.frames.frame.Frame.{Frame}
use Rattle.js_steps.specs.declared.frames.frame.Halt.{Halt}
use Rattle.js_steps.specs.declared.frames.frame.Halt.TheVariants.{NoMemory, Over}
use Rattle.js_steps.specs.declared.frames.frame.Task.{Task}
use Rattle.js_steps.specs.declared.frames.state.Env.{Env}
use Rattle.js_steps.specs.declared.frames.state.State.{State}
use Rattle.js_steps.specs.Moment.{Moment, Out, valued, expr_does, with_value}
use Rattle.js_steps.specs.Stack.{halt_of, resume, scope_in}
use Rattle.js_steps.specs.Stands.{Before, Variables, Stands, Keeps, Steps, StepsIn, Found, Finds, OnlyObjects, moment, world_of}
use Rattle.js_steps.specs.StateLaws.{moment_objects, stands_objects}
use Rattle.js_steps.specs.StepLaws.{stops}

-- what the definitions evaluate with, where a run is
abbrev pub point : ScriptTree → List ℕ → ℕ → Before → Variables → State → Point
point script choices fuel b vs s = record { setting = setting script choices fuel; scope = scope_in s.body.now s.caught; locals = vs.locals; world = world_of b vs s }

-- a context holds a run's code and variables
pub record IsOf (c : Context) (s : State) : Type 0 where
  pub code : c.code.now ≡ s.body.now.code
  pub locals : c.locals.now ≡ s.locals.items
  pub globals : c.globals.now ≡ s.globals.items
  pub caught : c.caught ≡ s.caught

pub context_stands : (script : ScriptTree) (choices : List ℕ) (fuel : ℕ) (b : Before) (vs : Variables) (stack : List Frame) (s : State) (c : Context)
    → IsOf c s → Stands script fuel vs stack s → seen.Stands c (point script choices fuel b vs s)
context_stands script choices fuel b vs stack s c o h = record {
  code = subst (IsCode (table_of script (names_in s.body.now))) (sym o.code) h.body.code;
  caught = sym (ap (option_map value_of) o.caught);
  locals = h.locals ∙ ap slots_in (sym o.locals);
  globals = h.globals ∙ ap slots_in (sym o.globals);
  only = h.only;
}

-- a world with these ticks
abbrev with_left : Before → Variables → State → ℕ → World
with_left b vs s n = record { left = n; printed = b.printed; taken = b.taken; objects = objects_of s.objects.items; globals = vs.globals }

world_objects : (b : Before) (vs : Variables) (s s' : State) (new : List Object) → OnlyObjects s s' → new ≡ s'.objects.items → world_with new (world_of b vs s) ≡ world_of b vs s'
world_objects b vs s s' new h e = ap (λ (os : List Object). world_with os (world_of b vs s)) e ∙ ap (with_left b vs s') (sym h.left)

-- a result of the evaluation of a part, as one of a step
abbrev pub result_of : {A : Type 0} → Result A simple.Halt → Result A Halt
result_of (Ok a) = Ok a
result_of (Err e) = Err (halt_of e)

gives_found : {A B : Type 0} (view : A → B) (r : Result A simple.Halt) (w : World) (o : Outcome World B) → Gives view r w o → Found view (result_of r) w o
gives_found view (Ok a) w o g = g
gives_found view (Err (simple_halt.Stuck at)) w o g = g
gives_found view (Err simple_halt.NoMemory) w o g = tt

abbrev all_from : List held.Value → Setting → Scope → Locals → Exprs → World → Outcome World (List Value)
all_from old st sc locals es w = and_then (eval_all st sc locals es w) (λ vs w. gives (values_of old ++ vs) w)

-- what an evaluation says of a part is what a run finds
pub finds_part : {A B : Type 0} (view : A → B) (s s' : State) (c : Context) (r : Result A simple.Halt) (old new : List Object) (there : Point → World → Outcome World B) (part : Setting → Moment → Outcome World B)
    → IsOf c s → OnlyObjects s s' → old ≡ s.objects.items → new ≡ s'.objects.items
    → ((script : ScriptTree) (choices : List ℕ) (fuel : ℕ) (b : Before) (vs : Variables)
    → there (point script choices fuel b vs s) (world_of b vs s) ≡ part (setting script choices fuel) (moment b vs s))
    → Does c view r old new there → Finds view s s' (result_of r) part
finds_part view s s' c r old new there part o h e k same d = λ script choices fuel b vs stack stands.
    let p = point script choices fuel b vs s in
    let w = world_of b vs s in
    subst (Found view (result_of r) (world_of b vs s')) (same script choices fuel b vs)
    (subst (λ (x : World). Found view (result_of r) (world_of b vs s') (there p x)) (ap (λ (os : List Object). world_with os w) e)
    (subst (λ (x : World). Found view (result_of r) x (there p (world_with old w))) (world_objects b vs s s' new h k)
    (gives_found view r (world_with new w) (there p (world_with old w)) (d p (context_stands script choices fuel b vs stack s c o stands)))))

-- the value of an expression
abbrev pub value_at : ℕ → Setting → Moment → Outcome World Value
value_at i st m = eval st m.scope m.locals (expr_at m.trees i) m.world

-- the values of expressions in order, after those that are there
abbrev pub values_at : List held.Value → ℕ → Setting → Moment → Outcome World (List Value)
values_at old i st m = and_then (eval_all st m.scope m.locals (exprs_at m.trees i) m.world) (λ vs w. gives (values_of old ++ vs) w)

pub finds_eval : (s s1 : State) (c : Context) (r : Result held.Value simple.Halt) (i : ℕ) → Does c value_of r s.objects.items s1.objects.items (eval_at c i)
    → IsOf c s → OnlyObjects s s1 → Finds value_of s s1 (result_of r) (value_at i)
finds_eval s s1 c r i d o h =
    finds_part value_of s s1 c r s.objects.items s1.objects.items (eval_at c i) (value_at i) o h refl refl
    (λ script choices fuel b vs. ap (λ (ps : List Part). eval (setting script choices fuel) (scope_in s.body.now s.caught) vs.locals (expr_at (trees_of ps) i) (world_of b vs s)) o.code) d

pub finds_all : (s s1 : State) (c : Context) (r : Result (Unit {0}) simple.Halt) (old new : List held.Value) (i : ℕ) → Does c (λ _. values_of new) r s.objects.items s1.objects.items (eval_all_at c (values_of old) i)
    → IsOf c s → OnlyObjects s s1 → Finds (λ _. values_of new) s s1 (result_of r) (values_at old i)
finds_all s s1 c r old new i d o h =
    finds_part (λ _. values_of new) s s1 c r s.objects.items s1.objects.items (eval_all_at c (values_of old) i) (values_at old i) o h refl refl
    (λ script choices fuel b vs. ap (λ (ps : List Part). all_from old (setting script choices fuel) (scope_in s.body.now s.caught) vs.locals (exprs_at (trees_of ps) i) (world_of b vs s)) o.code) d

-- why there is no value
pub finds_stop : {A B : Type 0} (view : A → B) (s s1 : State) (r : Result A Halt) (x : simple.Halt) (part : Setting → Moment → Outcome World B)
    → IsErrAnd r (λ y. y ≡ halt_of x) → Finds view s s1 (Err (halt_of x)) part → Finds view s s1 r part
finds_stop view s s1 (Ok a) x part h f = absurd h
finds_stop {A} view s s1 (Err y) x part h f = subst (λ (z : Halt). Finds view s s1 (let r : Result A Halt = Err z in r) part) (sym h) f

-- a part that is marked has no call in it
pub simple_marked : (k : Body) (i : ℕ) → mark_at k.marks i ≡ true → IsSimpleAt k.code i
simple_marked k i h = (k.marked i h).0

pub all_simple_marked : (k : Body) (i : ℕ) → mark_at k.marks i ≡ true → AreSimpleAt k.code i
all_simple_marked k i h = (k.marked i h).1

module _ (script : ScriptTree) (choices : List ℕ) (fuel : ℕ) (b : Before) (vs : Variables) (stack : List Frame) (s s1 : State) (i : ℕ) (next : Value → Moment → Out) where
  pub found_here : (v : held.Value) (new : List Frame) (s2 : State) (r : Result Task Halt) → Stands script fuel vs stack s → OnlyObjects s s1 → Finds value_of s s1 (Ok v) (value_at i)
      → Keeps script choices fuel b (resume (setting script choices fuel) stack vs.callers (next (value_of v) (moment b vs s1))) new s2 r
      → Keeps script choices fuel b (resume (setting script choices fuel) stack vs.callers (with_value (expr_does (setting script choices fuel) (expr_at (trees_of s.body.now.code) i) (moment b vs s)) next)) new s2 r
  found_here v new s2 r stands h f k =
      let m = moment b vs s in
      let e : with_value (expr_does (setting script choices fuel) (expr_at (trees_of s.body.now.code) i) m) next ≡ next (value_of v) (moment b vs s1) =
      ap (λ (o : Outcome World Value). with_value (valued m o) next) (f script choices fuel b vs stack stands)
      ∙ ap (next (value_of v)) (sym (moment_objects b vs s s1 h)) in
      subst (λ (o : Out). Keeps script choices fuel b (resume (setting script choices fuel) stack vs.callers o) new s2 r) (sym e) k

  pub stopped_here : (h : Halt) → Stands script fuel vs stack s → Finds value_of s s1 (Err h) (value_at i)
      → Keeps script choices fuel b (resume (setting script choices fuel) stack vs.callers (with_value (expr_does (setting script choices fuel) (expr_at (trees_of s.body.now.code) i) (moment b vs s)) next)) stack s1 (Err h)
  stopped_here NoMemory stands f = tt
  stopped_here (Over e) stands f =
      stops script choices fuel b vs stack s1 e (with_value (expr_does (setting script choices fuel) (expr_at (trees_of s.body.now.code) i) (moment b vs s)) next)
      (ap (λ (o : Outcome World Value). with_value (valued (moment b vs s) o) next) (f script choices fuel b vs stack stands))

-- the same for whole steps
pub found_value : (stack new : List Frame) (s s1 s2 : State) (v : held.Value) (r : Result Task Halt) (i : ℕ) (next : Setting → Value → Moment → Out) → OnlyObjects s s1 → Finds value_of s s1 (Ok v) (value_at i)
    → Steps stack s1 new s2 r (λ st. next st (value_of v))
    → Steps stack s new s2 r (λ st m. with_value (expr_does st (expr_at m.trees i) m) (next st))
found_value stack new s s1 s2 v r i next h f k = λ script choices fuel b vs stands.
    found_here script choices fuel b vs stack s s1 i (next (setting script choices fuel)) v new s2 r stands h f (k script choices fuel b vs (stands_objects script fuel vs stack s s1 h stands))

pub found_value_in : (env : Env) (stack new : List Frame) (s s1 s2 : State) (v : held.Value) (r : Result Task Halt) (i : ℕ) (next : Setting → Value → Moment → Out) → OnlyObjects s s1 → Finds value_of s s1 (Ok v) (value_at i)
    → StepsIn env stack s1 new s2 r (λ st. next st (value_of v))
    → StepsIn env stack s new s2 r (λ st m. with_value (expr_does st (expr_at m.trees i) m) (next st))
found_value_in env stack new s s1 s2 v r i next h f k = λ script choices fuel b vs program stands.
    found_here script choices fuel b vs stack s s1 i (next (setting script choices fuel)) v new s2 r stands h f (k script choices fuel b vs program (stands_objects script fuel vs stack s s1 h stands))

pub found_stop : (stack : List Frame) (s s1 : State) (h : Halt) (i : ℕ) (next : Setting → Value → Moment → Out) → Finds value_of s s1 (Err h) (value_at i)
    → Steps stack s stack s1 (Err h) (λ st m. with_value (expr_does st (expr_at m.trees i) m) (next st))
found_stop stack s s1 h i next f = λ script choices fuel b vs stands. stopped_here script choices fuel b vs stack s s1 i (next (setting script choices fuel)) h stands f
