-- Conditions: one of two ways by a boolean; and values that may be missing.
use Rattle.std.proofs.Common.{◌≡◌, refl, ap, sym, ◌∙◌, subst, ℕ, List, Option, Some, None, Bool, true, false, if◌then◌else◌}
use Rattle.std.specs.Prelude.{Result, Ok, Err}
use Rattle.std.specs.Result.{IsErrAnd}
use Rattle.js_tree.specs.Value as run
use Rattle.js_tree.specs.Value.{Value, World, whole, bytes, truth, nothing, object, function, gives, over, Stuck}
use Rattle.js_tree.specs.Evaluate.{Setting, setting, truth_of}
use Rattle.js_value.specs.HeapSeen.{value_of}
use Rattle.js_value.specs.declared.heap.value.Value as held
use Rattle.js_simple.specs.declared.state.Halt as simple
use Rattle.js_simple.specs.declared.state.Halt.TheVariants as simple_halt
use Rattle.js_simple.specs.Seen.{Anywhere}
use Rattle.js_steps.specs.declared.frames.frame.End.TheVariants as end
use Rattle.js_steps.specs.declared.frames.frame.Frame.{Frame}
use Rattle.js_steps.specs.declared.frames.frame.Halt.{Halt}
use Rattle.js_steps.specs.declared.frames.frame.Task.{Task}
use Rattle.js_steps.specs.declared.frames.frame.Task.TheVariants as next_task
use Rattle.js_steps.specs.declared.frames.state.State.{State}
use Rattle.js_steps.specs.Moment.{Moment, Out, given_here, chosen}
use Rattle.js_steps.specs.Stack.{halt_of, resume}
use Rattle.js_steps.specs.Stands.{Keeps, Steps, moment, world_of}
use Rattle.js_steps.specs.StepLaws.{goes_as, stops}
use Rattle.js_steps.specs.PartLaws.{steps_as}

-- a condition that is this boolean
chosen_is : (at : ℕ) (v : Value) (b : Bool) (left right : Moment → Out) (m : Moment) → truth_of at v m.world ≡ gives b m.world → chosen at v left right m ≡ (if b then left m else right m)
chosen_is at (truth true) true left right m h = refl
chosen_is at (truth true) false left right m h = cc
chosen_is at (truth false) true left right m h = cc
chosen_is at (truth false) false left right m h = refl
chosen_is at (whole n) b left right m h = cc
chosen_is at (bytes x) b left right m h = cc
chosen_is at nothing b left right m h = cc
chosen_is at (object id) b left right m h = cc
chosen_is at (function x) b left right m h = cc

-- a condition without a meaning
chosen_stops : (at : ℕ) (v : Value) (left right : Moment → Out) (m : Moment) (j : ℕ) → truth_of at v m.world ≡ over (Stuck j) m.world → chosen at v left right m ≡ over (Stuck j) m.world
chosen_stops at (truth b) left right m j h = cc
chosen_stops at (whole n) left right m j h = let e : at ≡ j = cc in ap (λ (k : ℕ). over (Stuck k) m.world) e
chosen_stops at (bytes x) left right m j h = let e : at ≡ j = cc in ap (λ (k : ℕ). over (Stuck k) m.world) e
chosen_stops at nothing left right m j h = let e : at ≡ j = cc in ap (λ (k : ℕ). over (Stuck k) m.world) e
chosen_stops at (object id) left right m j h = let e : at ≡ j = cc in ap (λ (k : ℕ). over (Stuck k) m.world) e
chosen_stops at (function x) left right m j h = let e : at ≡ j = cc in ap (λ (k : ℕ). over (Stuck k) m.world) e

-- the first way, and the second one
pub chosen_left : (stack new : List Frame) (s s' : State) (r : Result Task Halt) (at : ℕ) (v : Value) (b : Bool) (left right : Setting → Moment → Out) → Anywhere (λ (x : Bool). x) (Ok b) (truth_of at v) → b ≡ true
    → Steps stack s new s' r left → Steps stack s new s' r (λ st. chosen at v (left st) (right st))
chosen_left stack new s s' r at v b left right h e k =
    steps_as stack new s s' r left (λ st. chosen at v (left st) (right st))
    (λ script choices fuel f vs.
    let st = setting script choices fuel in
    let m = moment f vs s in
    chosen_is at v b (left st) (right st) m (h m.world) ∙ ap (λ (x : Bool). if x then left st m else right st m) e)
    k

pub chosen_right : (stack new : List Frame) (s s' : State) (r : Result Task Halt) (at : ℕ) (v : Value) (b : Bool) (left right : Setting → Moment → Out) → Anywhere (λ (x : Bool). x) (Ok b) (truth_of at v) → b ≡ false
    → Steps stack s new s' r right → Steps stack s new s' r (λ st. chosen at v (left st) (right st))
chosen_right stack new s s' r at v b left right h e k =
    steps_as stack new s s' r right (λ st. chosen at v (left st) (right st))
    (λ script choices fuel f vs.
    let st = setting script choices fuel in
    let m = moment f vs s in
    chosen_is at v b (left st) (right st) m (h m.world) ∙ ap (λ (x : Bool). if x then left st m else right st m) e)
    k

-- neither
pub chosen_stop : (stack : List Frame) (s : State) (r : Result Task Halt) (at : ℕ) (v : Value) (x : simple.Halt) (left right : Setting → Moment → Out) → IsErrAnd r (λ y. y ≡ halt_of x) → Anywhere (λ (b : Bool). b) (Err x) (truth_of at v)
    → Steps stack s stack s r (λ st. chosen at v (left st) (right st))
chosen_stop stack s (Ok t) at v x left right h a = absurd h
chosen_stop stack s (Err y) at v (simple_halt.Stuck j) left right h a = λ script choices fuel b vs stands.
    let st = setting script choices fuel in
    let o = chosen at v (left st) (right st) (moment b vs s) in
    subst (λ (z : Halt). Keeps script choices fuel b (resume st stack vs.callers o) stack s (Err z)) (sym h)
    (stops script choices fuel b vs stack s (end.Stuck j) o (chosen_stops at v (left st) (right st) (moment b vs s) j (a (world_of b vs s))))
chosen_stop stack s (Err y) at v simple_halt.NoMemory left right h a = λ script choices fuel b vs stands.
    subst (λ (z : Halt). Keeps script choices fuel b (resume (setting script choices fuel) stack vs.callers (chosen at v (left (setting script choices fuel)) (right (setting script choices fuel)) (moment b vs s))) stack s (Err z)) (sym h) tt

-- a value that the definitions give is there
is_given : (at : ℕ) (o : Option Value) (v : Value) (w : World) → run.given at o w ≡ gives v w → o ≡ Some v
is_given at None v w h = cc
is_given at (Some x) v w h = cc

is_not_given : (at j : ℕ) (o : Option Value) (m : Moment) → run.given at o m.world ≡ over (Stuck j) m.world → given_here at o m ≡ over (Stuck j) m.world
is_not_given at j None m h = let e : at ≡ j = cc in ap (λ (k : ℕ). over (Stuck k) m.world) e
is_not_given at j (Some x) m h = cc

-- a value that is there, and one that is missing
pub given_goes : (stack : List Frame) (s : State) (at : ℕ) (o : Option Value) (v : held.Value) → Anywhere value_of (let q : Result held.Value simple.Halt = Ok v in q) (run.given at o)
    → Steps stack s stack s (Ok (next_task.Give v)) (λ _. given_here at o)
given_goes stack s at o v h = λ script choices fuel b vs stands.
    let m = moment b vs s in
    goes_as script choices fuel b vs stack s (next_task.Give v) (given_here at o m) (sym (ap (λ (x : Option Value). given_here at x m) (is_given at o (value_of v) m.world (h m.world)))) stands

pub given_stops : (stack : List Frame) (s : State) (r : Result Task Halt) (at : ℕ) (o : Option Value) (x : simple.Halt) → IsErrAnd r (λ y. y ≡ halt_of x) → Anywhere value_of (let q : Result held.Value simple.Halt = Err x in q) (run.given at o)
    → Steps stack s stack s r (λ _. given_here at o)
given_stops stack s (Ok t) at o x h a = absurd h
given_stops stack s (Err y) at o (simple_halt.Stuck j) h a = λ script choices fuel b vs stands.
    let m = moment b vs s in
    subst (λ (z : Halt). Keeps script choices fuel b (resume (setting script choices fuel) stack vs.callers (given_here at o m)) stack s (Err z)) (sym h)
    (stops script choices fuel b vs stack s (end.Stuck j) (given_here at o m) (is_not_given at j o m (a m.world)))
given_stops stack s (Err y) at o simple_halt.NoMemory h a = λ script choices fuel b vs stands.
    subst (λ (z : Halt). Keeps script choices fuel b (resume (setting script choices fuel) stack vs.callers (given_here at o (moment b vs s))) stack s (Err z)) (sym h) tt
