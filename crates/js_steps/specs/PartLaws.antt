-- Steps by the part that is done, steps of parts that do the same, and steps that change arrays and dictionaries.
use Rattle.std.proofs.Common.{◌≡◌, refl, ap, sym, ◌∙◌, subst, ℕ, List, Option, Some, None, Bool, true, false, option_map, if◌then◌else◌, slice_get}
use Rattle.std.specs.Prelude.{Result, Ok, Err, IfNone}
use Rattle.js_tree.specs.Script.{ScriptTree}
use Rattle.js_tree.specs.Value.{Value, Object, World, gives, over}
use Rattle.js_tree.specs.Value as run
use Rattle.js_tree.specs.Operation.{popped}
use Rattle.js_tree.specs.Evaluate.{Setting, setting, onward, with_objects}
use Rattle.js_code.specs.Places.{table_of}
use Rattle.js_code.specs.Parts.{Part, Tree, tree_of, trees_of}
use Rattle.js_code.specs.PartLaws.{parts_stand}
use Rattle.js_value.specs.HeapSeen.{value_of, objects_of}
use Rattle.js_value.specs.declared.heap.value.Value as held
use Rattle.js_steps.specs.Bodies.{names_in}
use Rattle.js_steps.specs.declared.frames.frame.End.TheVariants as end
use Rattle.js_steps.specs.declared.frames.frame.Flow.TheVariants as step_flow
use Rattle.js_steps.specs.declared.frames.frame.Frame.{Frame}
use Rattle.js_steps.specs.declared.frames.frame.Halt.{Halt}
use Rattle.js_steps.specs.declared.frames.frame.Halt.TheVariants.{Over}
use Rattle.js_steps.specs.declared.frames.frame.Task.{Task}
use Rattle.js_steps.specs.declared.frames.frame.Task.TheVariants as next_task
use Rattle.js_steps.specs.declared.frames.state.Env.{Env}
use Rattle.js_steps.specs.declared.frames.state.State.{State}
use Rattle.js_steps.specs.Moment.{Moment, Out, value, flow, in_world, given_here, popped_here, done_here}
use Rattle.js_steps.specs.Stack.{resume}
use Rattle.js_steps.specs.Stands.{Before, Variables, Stands, Keeps, Steps, StepsIn, OnlyObjects, moment, world_of}
use Rattle.js_steps.specs.StateLaws.{moment_objects, stands_objects}
use Rattle.js_steps.specs.StepLaws.{goes_as, stops}

-- what a part that is held stands for
pub tree_held : (script : ScriptTree) (fuel : ℕ) (vs : Variables) (stack : List Frame) (s : State) (i : ℕ) (p : Part) → Stands script fuel vs stack s → slice_get s.body.now.code i ≡ Some p
    → slice_get (trees_of s.body.now.code) i ≡ Some (tree_of (trees_of s.body.now.code) p)
tree_held script fuel vs stack s i p h e = parts_stand (table_of script (names_in s.body.now)) s.body.now.code h.body.code i p e

-- a step of a part, by the part that is held
pub steps_part : (stack new : List Frame) (s s' : State) (r : Result Task Halt) (i : ℕ) (p : Part) (next : Setting → Option Tree → Moment → Out) → slice_get s.body.now.code i ≡ Some p
    → Steps stack s new s' r (λ st m. next st (Some (tree_of m.trees p)) m) → Steps stack s new s' r (λ st m. next st (slice_get m.trees i) m)
steps_part stack new s s' r i p next e k = λ script choices fuel b vs h.
    subst (λ (t : Option Tree). Keeps script choices fuel b (resume (setting script choices fuel) stack vs.callers (next (setting script choices fuel) t (moment b vs s))) new s' r)
    (sym (tree_held script fuel vs stack s i p h e)) (k script choices fuel b vs h)

pub steps_part_in : (env : Env) (stack new : List Frame) (s s' : State) (r : Result Task Halt) (i : ℕ) (p : Part) (next : Setting → Option Tree → Moment → Out) → slice_get s.body.now.code i ≡ Some p
    → StepsIn env stack s new s' r (λ st m. next st (Some (tree_of m.trees p)) m) → StepsIn env stack s new s' r (λ st m. next st (slice_get m.trees i) m)
steps_part_in env stack new s s' r i p next e k = λ script choices fuel b vs program h.
    subst (λ (t : Option Tree). Keeps script choices fuel b (resume (setting script choices fuel) stack vs.callers (next (setting script choices fuel) t (moment b vs s))) new s' r)
    (sym (tree_held script fuel vs stack s i p h e)) (k script choices fuel b vs program h)

-- a step of a part, after which arrays and dictionaries alone are others, and then one that does the same
pub steps_changed : (stack new : List Frame) (s s1 s2 : State) (r : Result Task Halt) (part part' : Setting → Moment → Out) → OnlyObjects s s1
    → ((script : ScriptTree) (choices : List ℕ) (fuel : ℕ) (b : Before) (vs : Variables) → part' (setting script choices fuel) (moment b vs s) ≡ part (setting script choices fuel) (moment b vs s1))
    → Steps stack s1 new s2 r part → Steps stack s new s2 r part'
steps_changed stack new s s1 s2 r part part' h e k = λ script choices fuel b vs stands.
    subst (λ (o : Out). Keeps script choices fuel b (resume (setting script choices fuel) stack vs.callers o) new s2 r) (sym (e script choices fuel b vs))
    (k script choices fuel b vs (stands_objects script fuel vs stack s s1 h stands))

-- a step of a part that does the same
pub steps_as : (stack new : List Frame) (s s' : State) (r : Result Task Halt) (part part' : Setting → Moment → Out)
    → ((script : ScriptTree) (choices : List ℕ) (fuel : ℕ) (b : Before) (vs : Variables) → part' (setting script choices fuel) (moment b vs s) ≡ part (setting script choices fuel) (moment b vs s))
    → Steps stack s new s' r part → Steps stack s new s' r part'
steps_as stack new s s' r part part' e k = λ script choices fuel b vs stands.
    subst (λ (o : Out). Keeps script choices fuel b (resume (setting script choices fuel) stack vs.callers o) new s' r) (sym (e script choices fuel b vs)) (k script choices fuel b vs stands)

-- the world where arrays and dictionaries alone are others
abbrev with_all : Before → Variables → ℕ → List Object → World
with_all b vs n os = record { left = n; printed = b.printed; taken = b.taken; objects = os; globals = vs.globals }

world_left : (b : Before) (vs : Variables) (s s1 : State) → OnlyObjects s s1 → with_objects (objects_of s1.objects.items) (world_of b vs s) ≡ world_of b vs s1
world_left b vs s s1 h = ap (λ (n : ℕ). with_all b vs n (objects_of s1.objects.items)) (sym h.left)

moment_left : (b : Before) (vs : Variables) (s s1 : State) → OnlyObjects s s1 → in_world (moment b vs s) (with_objects (objects_of s1.objects.items) (world_of b vs s)) ≡ moment b vs s1
moment_left b vs s s1 h = ap (in_world (moment b vs s)) (world_left b vs s s1 h) ∙ sym (moment_objects b vs s s1 h)

world_same : (b : Before) (vs : Variables) (s s1 : State) → OnlyObjects s s1 → objects_of s1.objects.items ≡ objects_of s.objects.items → world_of b vs s ≡ world_of b vs s1
world_same b vs s s1 h e = sym (ap (λ (os : List Object). with_objects os (world_of b vs s)) e) ∙ world_left b vs s s1 h

-- an operation of a statement that has a meaning, or none
pub done_step : (stack : List Frame) (s s1 : State) (at : ℕ) (ok : Bool) (r : Result Task Halt) (o : List Object → Option (List Object)) → OnlyObjects s s1
    → o (objects_of s.objects.items) ≡ (if ok then Some (objects_of s1.objects.items) else None) → (ok ≡ false → objects_of s1.objects.items ≡ objects_of s.objects.items)
    → r ≡ (if ok then Ok (next_task.Follow step_flow.Onward) else Err (Over (end.Stuck at)))
    → Steps stack s stack s1 r (λ _ m. done_here at (o m.world.objects) m)
done_step stack s s1 at true r o h e k is = λ script choices fuel b vs stands.
    let m = moment b vs s in
    let x : done_here at (o m.world.objects) m ≡ gives (flow onward) (moment b vs s1) =
    ap (λ (os : Option (List Object)). done_here at os m) e ∙ ap (gives (flow onward)) (moment_left b vs s s1 h) in
    subst (Keeps script choices fuel b (resume (setting script choices fuel) stack vs.callers (done_here at (o m.world.objects) m)) stack s1) (sym is)
    (goes_as script choices fuel b vs stack s1 (next_task.Follow step_flow.Onward) (done_here at (o m.world.objects) m) (sym x) (stands_objects script fuel vs stack s s1 h stands))
done_step stack s s1 at false r o h e k is = λ script choices fuel b vs stands.
    let m = moment b vs s in
    let x : done_here at (o m.world.objects) m ≡ over (run.Stuck at) (world_of b vs s1) =
    ap (λ (os : Option (List Object)). done_here at os m) e ∙ ap (over (run.Stuck at)) (world_same b vs s s1 h (k refl)) in
    subst (Keeps script choices fuel b (resume (setting script choices fuel) stack vs.callers (done_here at (o m.world.objects) m)) stack s1) (sym is)
    (stops script choices fuel b vs stack s1 (end.Stuck at) (done_here at (o m.world.objects) m) x)

-- the last element of an array is taken, where there is one
pub pop_step : (stack new : List Frame) (s s1 s2 : State) (at : ℕ) (a : Value) (o : Option held.Value) (r : Result Task Halt) → OnlyObjects s s1
    → popped (objects_of s.objects.items) a ≡ option_map (λ v. (value_of v, objects_of s1.objects.items)) o → IfNone o (objects_of s1.objects.items ≡ objects_of s.objects.items)
    → Steps stack s1 new s2 r (λ _. given_here at (option_map value_of o))
    → Steps stack s new s2 r (λ _ m. popped_here at (popped m.world.objects a) m)
pop_step stack new s s1 s2 at a (Some v) r h e k steps =
    steps_changed stack new s s1 s2 r (λ _. given_here at (Some (value_of v))) (λ _ m. popped_here at (popped m.world.objects a) m) h
    (λ script choices fuel b vs. ap (λ (p : Option (Value × List Object)). popped_here at p (moment b vs s)) e ∙ ap (gives (value (value_of v))) (moment_left b vs s s1 h)) steps
pop_step stack new s s1 s2 at a None r h e k steps =
    steps_changed stack new s s1 s2 r (λ _. given_here at None) (λ _ m. popped_here at (popped m.world.objects a) m) h
    (λ script choices fuel b vs. ap (λ (p : Option (Value × List Object)). popped_here at p (moment b vs s)) e ∙ ap (over (run.Stuck at)) (world_same b vs s s1 h k)) steps
