-- Arguments, from the left.
use Rattle.std.proofs.Common.{◌≡◌, refl, ap, sym, ◌∙◌, subst, ℕ, List, [], ◌∷◌, ◌++◌, append_assoc, Option, Some, None, slice_get}
use Rattle.std.specs.Prelude.{Result, Ok, Err}
use Rattle.std.specs.Result.{IsErrAnd}
use Rattle.std.proofs.lemmas.List.{append-nil}
use Rattle.js_tree.specs.Script.{Exprs, ScriptTree}
use Rattle.js_tree.specs.Value.{Value, World, Outcome, gives, throws, over, and_then}
use Rattle.js_tree.specs.Evaluate.{Setting, setting, eval, eval_all, call_value}
use Rattle.js_code.specs.Places.{table_of}
use Rattle.js_code.specs.Parts.{call, Tree, expr_at, exprs_at, tree_of, trees_of}
use Rattle.js_value.specs.HeapSeen.{values_of}
use Rattle.js_value.specs.declared.heap.value.Value as held
use Rattle.js_simple.specs.Cells.{exprs_of}
use Rattle.js_simple.specs.Simple.{IsSomeCode}
use Rattle.js_simple.specs.declared.list.Cell.{Cell}
use Rattle.js_steps.specs.Bodies.{names_in}
use Rattle.js_steps.specs.declared.frames.frame.Frame.{Frame}
use Rattle.js_steps.specs.declared.frames.frame.Halt.{Halt}
use Rattle.js_steps.specs.declared.frames.frame.Halt.TheVariants.{NoMemory, Over}
use Rattle.js_steps.specs.declared.frames.frame.Task.{Task}
use Rattle.js_steps.specs.declared.frames.frame.Use.{Use}
use Rattle.js_steps.specs.declared.frames.state.Env.{Env}
use Rattle.js_steps.specs.declared.frames.state.State.{State}
use Rattle.js_steps.specs.Moment.{Moment, Out, in_world, valued, expr_does, with_value, with_values, called_here, arguments_do}
use Rattle.js_steps.specs.PartWaits.{callee_does}
use Rattle.js_steps.specs.Stack.{resume}
use Rattle.js_steps.specs.Stands.{Variables, Stands, Keeps, Steps, StepsIn, Finds, OnlyObjects, moment}
use Rattle.js_steps.specs.StateLaws.{moment_objects, stands_objects}
use Rattle.js_steps.specs.StepLaws.{stops}
use Rattle.js_steps.specs.PartLaws.{tree_held}
use Rattle.js_steps.specs.FoundLaws.{values_at}
use Rattle.js_steps.proofs.Goes.{same_kept}

-- the values of what is left go after those that are there
values_onto : (m : Moment) (o : Outcome World (List Value)) (done : List Value) (next : List Value → Moment → Out)
    → with_values m o (λ vs n. next (done ++ vs) n) ≡ with_values m (and_then o (λ vs w. gives (done ++ vs) w)) next
values_onto m (gives vs w) done next = refl
values_onto m (throws at v w) done next = refl
values_onto m (over e w) done next = refl

-- the call, once all arguments have values
abbrev calls : Setting → ℕ → Use → Value → List Value → Moment → Out
calls st at u f vs m = called_here at u m (call_value st at f vs m.world)

-- the arguments that are left had their values at once
pub found_arguments : (env : Env) (stack new : List Frame) (s s1 s2 : State) (r : Result Task Halt) (at : ℕ) (u : Use) (f : Value) (done all : List held.Value) (list : ℕ) → OnlyObjects s s1
    → Finds (λ (x : Unit {0}). values_of all) s s1 (Ok tt) (values_at done list)
    → StepsIn env stack s1 new s2 r (λ st m. called_here at u m (call_value st at f (values_of all) m.world))
    → StepsIn env stack s new s2 r (λ st m. arguments_do st at u f (values_of done) (exprs_at m.trees list) m)
found_arguments env stack new s s1 s2 r at u f done all list only found steps = λ script choices fuel b vs program h.
    let st = setting script choices fuel in
    let m : Moment = moment b vs s in
    let e : arguments_do st at u f (values_of done) (exprs_at m.trees list) m ≡ calls st at u f (values_of all) (moment b vs s1) =
    values_onto m (eval_all st m.scope m.locals (exprs_at m.trees list) m.world) (values_of done) (calls st at u f)
    ∙ ap (λ (o : Outcome World (List Value)). with_values m o (calls st at u f)) (found script choices fuel b vs stack h)
    ∙ ap (calls st at u f (values_of all)) (sym (moment_objects b vs s s1 only)) in
    subst (λ (o : Out). Keeps script choices fuel b (resume st stack vs.callers o) new s2 r) (sym e) (steps script choices fuel b vs program (stands_objects script fuel vs stack s s1 only h))

-- one of them has none
pub stopped_arguments : (env : Env) (stack : List Frame) (s s1 : State) (r : Result Task Halt) (x : Halt) (at : ℕ) (u : Use) (f : Value) (done all : List held.Value) (list : ℕ) → IsErrAnd r (λ y. y ≡ x)
    → Finds (λ (x : Unit {0}). values_of all) s s1 (Err x) (values_at done list)
    → StepsIn env stack s stack s1 r (λ st m. arguments_do st at u f (values_of done) (exprs_at m.trees list) m)
stopped_arguments env stack s s1 r NoMemory at u f done all list is found = λ script choices fuel b vs program h.
    same_kept script choices fuel b (resume (setting script choices fuel) stack vs.callers (arguments_do (setting script choices fuel) at u f (values_of done) (exprs_at (trees_of s.body.now.code) list) (moment b vs s))) stack s1 r NoMemory is tt
stopped_arguments env stack s s1 r (Over e) at u f done all list is found = λ script choices fuel b vs program h.
    let st = setting script choices fuel in
    let m : Moment = moment b vs s in
    let out : Out = arguments_do st at u f (values_of done) (exprs_at m.trees list) m in
    same_kept script choices fuel b (resume st stack vs.callers out) stack s1 r (Over e) is
    (stops script choices fuel b vs stack s1 e out
    (values_onto m (eval_all st m.scope m.locals (exprs_at m.trees list) m.world) (values_of done) (calls st at u f)
    ∙ ap (λ (o : Outcome World (List Value)). with_values m o (calls st at u f)) (found script choices fuel b vs stack h)))

-- one more value, before those of what is left
onto : (m : Moment) (v : Value) (done : List Value) (w : World) (o : Outcome World (List Value)) (next : List Value → Moment → Out)
    → with_values m (and_then o (λ vs w. gives (v ∷ vs) w)) (λ vs m. next (done ++ vs) m) ≡ with_values (in_world m w) o (λ vs m. next ((done ++ v ∷ []) ++ vs) m)
onto m v done w (gives vs u) next = ap (λ (zs : List Value). next zs (in_world m u)) (sym (append_assoc done (v ∷ []) vs))
onto m v done w (throws at x u) next = refl
onto m v done w (over e u) next = refl

onto_value : (m : Moment) (done : List Value) (o : Outcome World Value) (es : World → Outcome World (List Value)) (next : List Value → Moment → Out) (next' : Value → Moment → Out)
    → ((v : Value) (w : World) → with_values (in_world m w) (es w) (λ vs m. next ((done ++ v ∷ []) ++ vs) m) ≡ next' v (in_world m w))
    → with_values m (and_then o (λ v w. and_then (es w) (λ vs w. gives (v ∷ vs) w))) (λ vs m. next (done ++ vs) m) ≡ with_value (valued m o) next'
onto_value m done (gives v w) es next next' h = onto m v done w (es w) next ∙ h v w
onto_value m done (throws at v w) es next next' h = refl
onto_value m done (over e w) es next next' h = refl

-- the code of a call is code
some_code : (script : ScriptTree) (fuel : ℕ) (vs : Variables) (stack : List Frame) (s : State) → Stands script fuel vs stack s → IsSomeCode s.body.now.code
some_code script fuel vs stack s h = (table_of script (names_in s.body.now), h.body.code)

-- the next argument, and those after it
pub next_argument : (env : Env) (stack new : List Frame) (s s1 : State) (r : Result Task Halt) (at : ℕ) (u : Use) (f : Value) (done : List Value) (list : ℕ) (o : Option Cell) (cell : Cell)
    → (IsSomeCode s.body.now.code → exprs_at (trees_of s.body.now.code) list ≡ exprs_of (trees_of s.body.now.code) o) → o ≡ Some cell
    → Steps stack s new s1 r (λ st m. with_value (expr_does st (expr_at m.trees cell.first) m) (λ v n. arguments_do st at u f (done ++ v ∷ []) (exprs_at n.trees cell.rest) n))
    → StepsIn env stack s new s1 r (λ st m. arguments_do st at u f done (exprs_at m.trees list) m)
next_argument env stack new s s1 r at u f done list o cell is q steps = λ script choices fuel b vs program h.
    let st = setting script choices fuel in
    let m : Moment = moment b vs s in
    let e : arguments_do st at u f done (exprs_at m.trees list) m ≡ with_value (expr_does st (expr_at m.trees cell.first) m) (λ v n. arguments_do st at u f (done ++ v ∷ []) (exprs_at n.trees cell.rest) n) =
    ap (λ (es : Exprs). arguments_do st at u f done es m) (is (some_code script fuel vs stack s h) ∙ ap (exprs_of m.trees) q)
    ∙ onto_value m done (eval st m.scope m.locals (expr_at m.trees cell.first) m.world) (eval_all st m.scope m.locals (exprs_at m.trees cell.rest)) (calls st at u f) _ (λ v w. refl) in
    subst (λ (o : Out). Keeps script choices fuel b (resume st stack vs.callers o) new s1 r) (sym e) (steps script choices fuel b vs h)

-- no argument is left
pub last_argument : (env : Env) (stack new : List Frame) (s s1 : State) (r : Result Task Halt) (at : ℕ) (u : Use) (f : Value) (done : List Value) (list : ℕ) (o : Option Cell)
    → (IsSomeCode s.body.now.code → exprs_at (trees_of s.body.now.code) list ≡ exprs_of (trees_of s.body.now.code) o) → o ≡ None
    → StepsIn env stack s new s1 r (λ st m. called_here at u m (call_value st at f done m.world))
    → StepsIn env stack s new s1 r (λ st m. arguments_do st at u f done (exprs_at m.trees list) m)
last_argument env stack new s s1 r at u f done list o is q steps = λ script choices fuel b vs program h.
    let st = setting script choices fuel in
    let m : Moment = moment b vs s in
    let e : arguments_do st at u f done (exprs_at m.trees list) m ≡ calls st at u f done m =
    ap (λ (es : Exprs). arguments_do st at u f done es m) (is (some_code script fuel vs stack s h) ∙ ap (exprs_of m.trees) q)
    ∙ ap (λ (vs : List Value). calls st at u f vs m) (append-nil done) in
    subst (λ (o : Out). Keeps script choices fuel b (resume st stack vs.callers o) new s1 r) (sym e) (steps script choices fuel b vs program h)

-- no value is there yet, in a list that comes again
pub no_values_yet : (env : Env) (stack new : List Frame) (s x s2 : State) (r : Result Task Halt) (at : ℕ) (u : Use) (f : Value) (values : List held.Value) (list : ℕ) → values ≡ []
    → StepsIn env stack (record s { spare = x.spare }) new s2 r (λ st m. arguments_do st at u f (values_of values) (exprs_at m.trees list) m)
    → StepsIn env stack s new s2 r (λ st m. arguments_do st at u f [] (exprs_at m.trees list) m)
no_values_yet env stack new s x s2 r at u f values list e steps = λ script choices fuel b vs program h.
    let st = setting script choices fuel in
    let m : Moment = moment b vs s in
    let s1 : State = record s { spare = x.spare } in
    let only : OnlyObjects s s1 = record { left = refl; globals = refl; body = refl; locals = refl; caught = refl } in
    subst (λ (done : List held.Value). Keeps script choices fuel b (resume st stack vs.callers (arguments_do st at u f (values_of done) (exprs_at m.trees list) m)) new s2 r) e
    (steps script choices fuel b vs program (stands_objects script fuel vs stack s s1 only h))

-- what goes on after a value is the same where it is the same in each world
value_same : (m : Moment) (o : Outcome World Value) (next next' : Value → Moment → Out) → ((v : Value) (w : World) → next v (in_world m w) ≡ next' v (in_world m w))
    → with_value (valued m o) next ≡ with_value (valued m o) next'
value_same m (gives v w) next next' h = h v w
value_same m (throws at v w) next next' h = refl
value_same m (over e w) next next' h = refl

-- a call waits for what is called
pub callee_waits : (env : Env) (stack new : List Frame) (s s1 : State) (r : Result Task Halt) (i at callee list : ℕ) (u : Use) → slice_get s.body.now.code i ≡ Some (call at callee list)
    → Steps stack s new s1 r (λ st m. with_value (expr_does st (expr_at m.trees callee) m) (λ v n. callee_does st u (slice_get n.trees i) v n))
    → StepsIn env stack s new s1 r (λ st m. with_value (expr_does st (expr_at m.trees callee) m) (λ v n. arguments_do st at u v [] (exprs_at n.trees list) n))
callee_waits env stack new s s1 r i at callee list u is steps = λ script choices fuel b vs program h.
    let st = setting script choices fuel in
    let m : Moment = moment b vs s in
    let t : slice_get m.trees i ≡ Some (tree_of m.trees (call at callee list)) = tree_held script fuel vs stack s i (call at callee list) h is in
    subst (λ (o : Out). Keeps script choices fuel b (resume st stack vs.callers o) new s1 r)
    (value_same m (eval st m.scope m.locals (expr_at m.trees callee) m.world) (λ v n. callee_does st u (slice_get n.trees i) v n) (λ v n. arguments_do st at u v [] (exprs_at n.trees list) n)
    (λ v x. ap (λ (o : Option Tree). callee_does st u o v (in_world m x)) t))
    (steps script choices fuel b vs h)
