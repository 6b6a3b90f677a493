-- Steps of parts whose first expressions have values.
use Rattle.std.proofs.Common.{◌≡◌, ◌≤◌, ◌+◌, refl, ap, sym, ◌∙◌, subst, arith, ℕ, zero, suc, List, [], ◌∷◌, Option, Some, None, true, false, length, option_map, slice_get}
use Rattle.std.proofs.lemmas.List.{length-append}
use Rattle.std.proofs.lemmas.Option.{slice_get_past}
use Rattle.std.specs.Prelude.{Result, Ok, Err, fold}
use Rattle.std.specs.Result.{IsErrAnd}
use Rattle.js_tree.specs.Script.{ScriptTree}
use Rattle.js_tree.specs.Value.{Value, Object, World, Outcome, whole, bytes, truth, nothing, object, function, gives, throws, over}
use Rattle.js_tree.specs.Value as run
use Rattle.js_tree.specs.Evaluate.{Setting, setting, eval}
use Rattle.js_code.specs.Held.{part_of}
use Rattle.js_code.specs.Parts.{Part, Tree, expr_at, tree_of, trees_of, with_tree}
use Rattle.js_code.specs.declared.code.part.Part as kept
use Rattle.js_value.specs.HeapSeen.{value_of, objects_of}
use Rattle.js_value.specs.declared.heap.value.Value as held
use Rattle.js_simple.specs.declared.state.Halt as simple
use Rattle.js_simple.specs.Seen.{Anywhere}
use Rattle.js_steps.specs.declared.frames.frame.Frame.{Frame}
use Rattle.js_steps.specs.declared.frames.frame.Halt.{Halt}
use Rattle.js_steps.specs.declared.frames.frame.Task.{Task}
use Rattle.js_steps.specs.declared.frames.frame.Task.TheVariants as next_task
use Rattle.js_steps.specs.declared.frames.state.State.{State}
use Rattle.js_steps.specs.Moment.{Moment, Out, value, in_world, valued, expr_does, with_value, given_here, chosen}
use Rattle.js_steps.specs.PartWaits.{first_does, second_does, third_does}
use Rattle.js_steps.specs.Stack.{halt_of, resume, task_does}
use Rattle.js_steps.specs.Stands.{Before, Variables, Stands, Keeps, Steps, Finds, moment}
use Rattle.js_steps.specs.StepLaws.{goes_as}
use Rattle.js_steps.specs.ChoiceLaws.{given_goes, given_stops}
use Rattle.js_steps.specs.FoundLaws.{found_stop, value_at}
use Rattle.js_steps.specs.PartLaws.{steps_as, steps_part, tree_held}

abbrev pub some_part : kept.Part → Option Part
some_part q = Some (part_of q)

-- a part by what it is, with one value, two and three
pub part_first : (stack new : List Frame) (s s' : State) (r : Result Task Halt) (i : ℕ) (q w : kept.Part) (v : Value) → slice_get s.body.now.code i ≡ Some (part_of q) → q ≡ w
    → Steps stack s new s' r (λ st m. first_does st (Some (tree_of m.trees (part_of w))) v m) → Steps stack s new s' r (λ st m. first_does st (slice_get m.trees i) v m)
part_first stack new s s' r i q w v h e k = steps_part stack new s s' r i (part_of w) (λ st t. first_does st t v) (h ∙ ap some_part e) k

pub part_second : (stack new : List Frame) (s s' : State) (r : Result Task Halt) (i : ℕ) (q w : kept.Part) (u v : Value) → slice_get s.body.now.code i ≡ Some (part_of q) → q ≡ w
    → Steps stack s new s' r (λ st m. second_does st (Some (tree_of m.trees (part_of w))) u v m) → Steps stack s new s' r (λ st m. second_does st (slice_get m.trees i) u v m)
part_second stack new s s' r i q w u v h e k = steps_part stack new s s' r i (part_of w) (λ st t. second_does st t u v) (h ∙ ap some_part e) k

pub part_third : (stack new : List Frame) (s s' : State) (r : Result Task Halt) (i : ℕ) (q w : kept.Part) (u v x : Value) → slice_get s.body.now.code i ≡ Some (part_of q) → q ≡ w
    → Steps stack s new s' r (λ st m. third_does (Some (tree_of m.trees (part_of w))) u v x m) → Steps stack s new s' r (λ st m. third_does (slice_get m.trees i) u v x m)
part_third stack new s s' r i q w u v x h e k = steps_part stack new s s' r i (part_of w) (λ st t. third_does t u v x) (h ∙ ap some_part e) k

-- what goes on after a value is the same where it is the same in each world
pub value_same : (m : Moment) (o : Outcome World Value) (next next' : Value → Moment → Out) → ((v : Value) (w : World) → next v (in_world m w) ≡ next' v (in_world m w))
    → with_value (valued m o) next ≡ with_value (valued m o) next'
value_same m (gives v w) next next' h = h v w
value_same m (throws at v w) next next' h = refl
value_same m (over e w) next next' h = refl

-- a part that is held goes on after the value of an expression in it
pub part_then : (stack new : List Frame) (s s' : State) (r : Result Task Halt) (i e : ℕ) (q w : kept.Part) (next : Setting → Option Tree → Value → Moment → Out) → slice_get s.body.now.code i ≡ Some (part_of q) → q ≡ w
    → Steps stack s new s' r (λ st m. with_value (expr_does st (expr_at m.trees e) m) (λ v n. next st (slice_get n.trees i) v n))
    → Steps stack s new s' r (λ st m. with_value (expr_does st (expr_at m.trees e) m) (λ v n. next st (Some (tree_of n.trees (part_of w))) v n))
part_then stack new s s' r i e q w next h is k = λ script choices fuel b vs stands.
    let st = setting script choices fuel in
    let m = moment b vs s in
    let t : slice_get m.trees i ≡ Some (tree_of m.trees (part_of w)) = tree_held script fuel vs stack s i (part_of w) stands (h ∙ ap some_part is) in
    subst (λ (o : Out). Keeps script choices fuel b (resume st stack vs.callers o) new s' r)
    (value_same m (eval st m.scope m.locals (expr_at m.trees e) m.world) (λ v n. next st (slice_get n.trees i) v n) (λ v n. next st (Some (tree_of n.trees (part_of w))) v n)
    (λ v x. ap (λ (o : Option Tree). next st o v (in_world m x)) t))
    (k script choices fuel b vs stands)

-- the same, told with what the part is where it began
pub second_here : (stack new : List Frame) (s s' : State) (r : Result Task Halt) (e : ℕ) (w : kept.Part) (u : Value)
    → Steps stack s new s' r (λ st m. with_value (expr_does st (expr_at m.trees e) m) (λ v n. second_does st (Some (tree_of n.trees (part_of w))) u v n))
    → Steps stack s new s' r (λ st m. with_value (expr_does st (expr_at m.trees e) m) (λ v n. second_does st (Some (tree_of m.trees (part_of w))) u v n))
second_here stack new s s' r e w u k =
    steps_as stack new s s' r (λ st m. with_value (expr_does st (expr_at m.trees e) m) (λ v n. second_does st (Some (tree_of n.trees (part_of w))) u v n))
    (λ st m. with_value (expr_does st (expr_at m.trees e) m) (λ v n. second_does st (Some (tree_of m.trees (part_of w))) u v n))
    (λ script choices fuel b vs.
    let st = setting script choices fuel in
    let m = moment b vs s in
    value_same m (eval st m.scope m.locals (expr_at m.trees e) m.world) (λ v n. second_does st (Some (tree_of m.trees (part_of w))) u v n) (λ v n. second_does st (Some (tree_of n.trees (part_of w))) u v n) (λ v x. refl))
    k

-- a value that an operation gives, said as the definitions say it
pub given_as : (stack new : List Frame) (s s' : State) (r : Result Task Halt) (at : ℕ) (o : Option held.Value) (o' : List Object → Option Value) → option_map value_of o ≡ o' (objects_of s.objects.items)
    → Steps stack s new s' r (λ _. given_here at (option_map value_of o)) → Steps stack s new s' r (λ _ m. given_here at (o' m.world.objects) m)
given_as stack new s s' r at o o' e k =
    steps_as stack new s s' r (λ _. given_here at (option_map value_of o)) (λ _ m. given_here at (o' m.world.objects) m)
    (λ script choices fuel b vs. ap (λ (x : Option Value). given_here at x (moment b vs s)) (sym e)) k

-- one of two ways that are the same here
chosen_same : (at : ℕ) (v : Value) (left right left' right' : Moment → Out) (m : Moment) → left m ≡ left' m → right m ≡ right' m → chosen at v left right m ≡ chosen at v left' right' m
chosen_same at (truth true) left right left' right' m h k = h
chosen_same at (truth false) left right left' right' m h k = k
chosen_same at (whole n) left right left' right' m h k = refl
chosen_same at (bytes x) left right left' right' m h k = refl
chosen_same at nothing left right left' right' m h k = refl
chosen_same at (object id) left right left' right' m h k = refl
chosen_same at (function x) left right left' right' m h k = refl

-- ways to go on that take what they do from where they are
pub chosen_ways : (stack new : List Frame) (s s' : State) (r : Result Task Halt) (at : ℕ) (v : Value) (left right : Setting → Moment → Out) (left' right' : Setting → Moment → Moment → Out)
    → ((st : Setting) (m : Moment) → left' st m m ≡ left st m) → ((st : Setting) (m : Moment) → right' st m m ≡ right st m)
    → Steps stack s new s' r (λ st. chosen at v (left st) (right st)) → Steps stack s new s' r (λ st m. chosen at v (left' st m) (right' st m) m)
chosen_ways stack new s s' r at v left right left' right' h k steps =
    steps_as stack new s s' r (λ st. chosen at v (left st) (right st)) (λ st m. chosen at v (left' st m) (right' st m) m)
    (λ script choices fuel b vs.
    let st = setting script choices fuel in
    let m = moment b vs s in
    chosen_same at v (left' st m) (right' st m) (left st) (right st) m (h st m) (k st m))
    steps

-- a part of which nothing is left to be done
pub gives_value : (stack : List Frame) (s : State) (v : held.Value) (part : Setting → Moment → Out) → ((st : Setting) (m : Moment) → m.trees ≡ trees_of s.body.now.code → part st m ≡ gives (value (value_of v)) m)
    → Steps stack s stack s (Ok (next_task.Give v)) part
gives_value stack s v part h = λ script choices fuel b vs stands.
    goes_as script choices fuel b vs stack s (next_task.Give v) (part (setting script choices fuel) (moment b vs s)) (sym (h (setting script choices fuel) (moment b vs s) refl)) stands

-- an operation on arrays and dictionaries that gave a value, and one that did not
pub given_step : (stack : List Frame) (s : State) (at : ℕ) (o : List Object → Option Value) (os : List Object) (v : held.Value) → os ≡ objects_of s.objects.items → Anywhere value_of (let q : Result held.Value simple.Halt = Ok v in q) (run.given at (o os))
    → Steps stack s stack s (Ok (next_task.Give v)) (λ _ m. given_here at (o m.world.objects) m)
given_step stack s at o os v e h =
    steps_as stack stack s s (Ok (next_task.Give v)) (λ _. given_here at (o os)) (λ _ m. given_here at (o m.world.objects) m)
    (λ script choices fuel b vs. ap (λ (x : Option Value). given_here at x (moment b vs s)) (ap o (sym e))) (given_goes stack s at (o os) v h)

pub given_stop : (stack : List Frame) (s : State) (r : Result Task Halt) (at : ℕ) (o : List Object → Option Value) (os : List Object) (x : simple.Halt) → os ≡ objects_of s.objects.items → IsErrAnd r (λ y. y ≡ halt_of x)
    → Anywhere value_of (let q : Result held.Value simple.Halt = Err x in q) (run.given at (o os))
    → Steps stack s stack s r (λ _ m. given_here at (o m.world.objects) m)
given_stop stack s r at o os x e h a =
    steps_as stack stack s s r (λ _. given_here at (o os)) (λ _ m. given_here at (o m.world.objects) m)
    (λ script choices fuel b vs. ap (λ (x : Option Value). given_here at x (moment b vs s)) (ap o (sym e))) (given_stops stack s r at (o os) x h a)

-- a step that only tells what is done next
pub goes_step : (stack : List Frame) (s : State) (t : Task) (part : Setting → Moment → Out) → ((st : Setting) (m : Moment) → part st m ≡ task_does st t m) → Steps stack s stack s (Ok t) part
goes_step stack s t part h = λ script choices fuel b vs stands.
    goes_as script choices fuel b vs stack s t (part (setting script choices fuel) (moment b vs s)) (sym (h (setting script choices fuel) (moment b vs s))) stands

-- what a part does, by what it is, where a step told it by its number
pub part_back : (stack new : List Frame) (s s' : State) (r : Result Task Halt) (i : ℕ) (q w : kept.Part) (next : Setting → Option Tree → Moment → Out) → slice_get s.body.now.code i ≡ Some (part_of q) → q ≡ w
    → Steps stack s new s' r (λ st m. next st (slice_get m.trees i) m) → Steps stack s new s' r (λ st m. next st (Some (tree_of m.trees (part_of w))) m)
part_back stack new s s' r i q w next h is k = λ script choices fuel b vs stands.
    subst (λ (t : Option Tree). Keeps script choices fuel b (resume (setting script choices fuel) stack vs.callers (next (setting script choices fuel) t (moment b vs s))) new s' r)
    (tree_held script fuel vs stack s i (part_of w) stands (h ∙ ap some_part is)) (k script choices fuel b vs stands)

-- an expression in a part has no value
pub found_stopped : (stack : List Frame) (s s1 : State) (r : Result Task Halt) (x : Halt) (i : ℕ) (next : Setting → Value → Moment → Out) → IsErrAnd r (λ y. y ≡ x) → Finds value_of s s1 (let q : Result held.Value Halt = Err x in q) (value_at i)
    → Steps stack s stack s1 r (λ st m. with_value (expr_does st (expr_at m.trees i) m) (next st))
found_stopped stack s s1 (Ok t) x i next h f = absurd h
found_stopped stack s s1 (Err y) x i next h f =
    subst (λ (z : Halt). Steps stack s stack s1 (Err z) (λ st m. with_value (expr_does st (expr_at m.trees i) m) (next st))) (sym h) (found_stop stack s s1 x i next f)

-- as many trees as parts
length_trees : (trees : List Tree) (parts : List Part) → length (fold with_tree trees parts) ≡ length trees + length parts
length_trees trees [] = omega arith
length_trees trees (p ∷ ps) =
    let r = length_trees (with_tree trees p) ps in
    let e = length-append trees (tree_of trees p ∷ []) in
    omega (arith, r, e)

past : {A : Type 0} (xs : List A) (i : ℕ) → slice_get xs i ≡ None → length xs ≤ i
past [] i h = omega arith
past (x ∷ xs) zero h = cc
past (x ∷ xs) (suc i) h = let r = past xs i h in omega (arith, r)

-- no part, no tree
pub no_tree : (ps : List Part) (i : ℕ) → slice_get ps i ≡ None → slice_get (trees_of ps) i ≡ None
no_tree ps i h = let k = past ps i h in slice_get_past (trees_of ps) i (omega (arith, length_trees [] ps, k))

-- what is done where no part is
pub goes_none : (stack : List Frame) (s : State) (i : ℕ) (t : Task) (next : Setting → Option Tree → Moment → Out) → slice_get s.body.now.code i ≡ None → ((st : Setting) (m : Moment) → next st None m ≡ task_does st t m)
    → Steps stack s stack s (Ok t) (λ st m. next st (slice_get m.trees i) m)
goes_none stack s i t next h e = λ script choices fuel b vs stands.
    let st = setting script choices fuel in
    let m = moment b vs s in
    goes_as script choices fuel b vs stack s t (next st (slice_get m.trees i) m) (sym (ap (λ (o : Option Tree). next st o m) (no_tree s.body.now.code i h) ∙ e st m)) stands

-- what is done with a part by what it is
pub part_by : (stack new : List Frame) (s s' : State) (r : Result Task Halt) (i : ℕ) (q w : kept.Part) (next : Setting → Option Tree → Moment → Out) → slice_get s.body.now.code i ≡ Some (part_of q) → q ≡ w
    → Steps stack s new s' r (λ st m. next st (Some (tree_of m.trees (part_of w))) m) → Steps stack s new s' r (λ st m. next st (slice_get m.trees i) m)
part_by stack new s s' r i q w next h is k = steps_part stack new s s' r i (part_of w) next (h ∙ ap some_part is) k

-- a part that begins with the first expression in it, where the run is
abbrev pub BeginsWith : List Frame → State → (Setting → Option Tree → Moment → Out) → kept.Part → ℕ → Type 0
BeginsWith stack s does w e =
    (script : ScriptTree) (choices : List ℕ) (fuel : ℕ) (b : Before) (vs : Variables) → Stands script fuel vs stack s
    → does (setting script choices fuel) (Some (tree_of (trees_of s.body.now.code) (part_of w))) (moment b vs s)
    ≡ with_value (expr_does (setting script choices fuel) (expr_at (trees_of s.body.now.code) e) (moment b vs s)) (λ v n. first_does (setting script choices fuel) (Some (tree_of (trees_of s.body.now.code) (part_of w))) v n)

pub begins : (stack new : List Frame) (s s' : State) (r : Result Task Halt) (i e : ℕ) (q w : kept.Part) (does : Setting → Option Tree → Moment → Out) → slice_get s.body.now.code i ≡ Some (part_of q) → q ≡ w
    → BeginsWith stack s does w e
    → Steps stack s new s' r (λ st m. with_value (expr_does st (expr_at m.trees e) m) (λ v n. first_does st (slice_get n.trees i) v n))
    → Steps stack s new s' r (λ st m. does st (slice_get m.trees i) m)
begins stack new s s' r i e q w does h is law k = λ script choices fuel b vs stands.
    let st = setting script choices fuel in
    let m = moment b vs s in
    let t : slice_get m.trees i ≡ Some (tree_of m.trees (part_of w)) = tree_held script fuel vs stack s i (part_of w) stands (h ∙ ap some_part is) in
    let same : with_value (expr_does st (expr_at m.trees e) m) (λ v n. first_does st (slice_get n.trees i) v n) ≡ does st (slice_get m.trees i) m =
    value_same m (eval st m.scope m.locals (expr_at m.trees e) m.world) (λ v n. first_does st (slice_get n.trees i) v n) (λ v n. first_does st (Some (tree_of m.trees (part_of w))) v n)
    (λ v x. ap (λ (o : Option Tree). first_does st o v (in_world m x)) t)
    ∙ sym (law script choices fuel b vs stands) ∙ sym (ap (λ (o : Option Tree). does st o m) t) in
    subst (λ (o : Out). Keeps script choices fuel b (resume st stack vs.callers o) new s' r) same (k script choices fuel b vs stands)
