-- The elements of an array, one after the other.
use Rattle.std.proofs.Common.{◌≡◌, refl, ap, sym, ◌∙◌, subst, ℕ, List, [], ◌∷◌, ◌++◌, Option, Some, None, length, slice_get}
use Rattle.std.specs.Prelude.{Result, Ok}
use Rattle.js_tree.specs.Script.{Exprs}
use Rattle.js_tree.specs.Value.{Value, Object, World, items, object, gives}
use Rattle.js_tree.specs.Evaluate.{setting, eval, with_objects}
use Rattle.js_code.specs.Places.{table_of}
use Rattle.js_code.specs.Parts.{Tree, array, as_expr, expr_at, exprs_at, trees_of}
use Rattle.js_value.specs.HeapSeen.{value_of, values_of, objects_of}
use Rattle.js_value.specs.declared.heap.value.Value as held
use Rattle.js_simple.specs.Simple.{IsSomeCode}
use Rattle.js_simple.specs.Cells.{exprs_of}
use Rattle.js_simple.specs.declared.list.Cell.{Cell}
use Rattle.js_steps.specs.Bodies.{names_in}
use Rattle.js_steps.specs.declared.frames.frame.Frame.{Frame}
use Rattle.js_steps.specs.declared.frames.frame.Halt.{Halt}
use Rattle.js_steps.specs.declared.frames.frame.Task.{Task}
use Rattle.js_steps.specs.declared.frames.frame.Task.TheVariants.{Give}
use Rattle.js_steps.specs.declared.frames.state.State.{State}
use Rattle.js_steps.specs.Moment.{Moment, Out, value, in_world, expr_does, elements_do, with_value}
use Rattle.js_steps.specs.Stack.{resume}
use Rattle.js_steps.specs.Stands.{Before, Variables, Keeps, OnlyObjects, Steps, moment, world_of}
use Rattle.js_steps.specs.StateLaws.{moment_objects, stands_objects}
use Rattle.js_steps.specs.StepLaws.{goes_as}
use Rattle.js_steps.specs.PartLaws.{tree_held}
use Rattle.js_steps.specs.WayLaws.{value_same}
use Rattle.js_steps.proofs.StepsCalls.{array_is, element_is, elements_end}

-- one more element
pub element_goes : (stack new : List Frame) (s : State) (r : Result Task Halt) (done : List held.Value) (list : ℕ) (cell : Cell)
    → (IsSomeCode s.body.now.code → exprs_at (trees_of s.body.now.code) list ≡ exprs_of (trees_of s.body.now.code) (Some cell))
    → Steps stack s new s r (λ st m. with_value (expr_does st (expr_at m.trees cell.first) m) (λ v n. elements_do st (values_of done ++ v ∷ []) (exprs_at n.trees cell.rest) n))
    → Steps stack s new s r (λ st m. elements_do st (values_of done) (exprs_at m.trees list) m)
element_goes stack new s r done list cell h k = λ script choices fuel b vs stands.
    let st = setting script choices fuel in
    let m = moment b vs s in
    let e : elements_do st (values_of done) (exprs_at m.trees list) m ≡ with_value (expr_does st (expr_at m.trees cell.first) m) (λ v n. elements_do st (values_of done ++ v ∷ []) (exprs_at n.trees cell.rest) n) =
    ap (λ (es : Exprs). elements_do st (values_of done) es m) (h (table_of script (names_in s.body.now), stands.body.code))
    ∙ element_is st m (values_of done) (expr_at m.trees cell.first) (exprs_at m.trees cell.rest)
    ∙ value_same m (eval st m.scope m.locals (expr_at m.trees cell.first) m.world) (λ v n. elements_do st (values_of done ++ v ∷ []) (exprs_at m.trees cell.rest) n)
    (λ v n. elements_do st (values_of done ++ v ∷ []) (exprs_at n.trees cell.rest) n) (λ v w. refl) in
    subst (λ (o : Out). Keeps script choices fuel b (resume st stack vs.callers o) new s r) (sym e) (k script choices fuel b vs stands)

-- the world with these arrays and dictionaries
abbrev with_all : Before → Variables → ℕ → List Object → World
with_all b vs n os = record { left = n; printed = b.printed; taken = b.taken; objects = os; globals = vs.globals }

moment_made : (b : Before) (vs : Variables) (s s1 : State) → OnlyObjects s s1 → in_world (moment b vs s) (with_objects (objects_of s1.objects.items) (world_of b vs s)) ≡ moment b vs s1
moment_made b vs s s1 h = ap (λ (n : ℕ). in_world (moment b vs s) (with_all b vs n (objects_of s1.objects.items))) (sym h.left) ∙ sym (moment_objects b vs s s1 h)

-- all elements are there
pub elements_made : (stack : List Frame) (s s1 : State) (done : List held.Value) (list : ℕ) (v : held.Value) → OnlyObjects s s1
    → (IsSomeCode s.body.now.code → exprs_at (trees_of s.body.now.code) list ≡ exprs_of (trees_of s.body.now.code) None)
    → value_of v ≡ object (length (objects_of s.objects.items)) → objects_of s1.objects.items ≡ objects_of s.objects.items ++ items (values_of done) ∷ []
    → Steps stack s stack s1 (Ok (Give v)) (λ st m. elements_do st (values_of done) (exprs_at m.trees list) m)
elements_made stack s s1 done list v only h made kept = λ script choices fuel b vs stands.
    let st = setting script choices fuel in
    let m = moment b vs s in
    let os = objects_of s.objects.items ++ items (values_of done) ∷ [] in
    let e : elements_do st (values_of done) (exprs_at m.trees list) m ≡ gives (value (value_of v)) (moment b vs s1) =
    ap (λ (es : Exprs). elements_do st (values_of done) es m) (h (table_of script (names_in s.body.now), stands.body.code))
    ∙ elements_end st m (values_of done)
    ∙ ap (λ (x : Value). gives (value x) (in_world m (with_objects os (world_of b vs s)))) (sym made)
    ∙ ap (λ (xs : List Object). gives (value (value_of v)) (in_world m (with_objects xs (world_of b vs s)))) (sym kept)
    ∙ ap (gives (value (value_of v))) (moment_made b vs s s1 only) in
    goes_as script choices fuel b vs stack s1 (Give v) (elements_do st (values_of done) (exprs_at m.trees list) m) (sym e) (stands_objects script fuel vs stack s s1 only stands)

-- an array, before its first element
pub array_goes : (stack new : List Frame) (s s1 s2 : State) (r : Result Task Halt) (i at es : ℕ) (values : List held.Value) → slice_get s.body.now.code i ≡ Some (array at es) → OnlyObjects s s1
    → ((b : Before) (vs : Variables) → moment b vs s1 ≡ moment b vs s) → values ≡ []
    → Steps stack s1 new s2 r (λ st m. elements_do st (values_of values) (exprs_at m.trees es) m) → Steps stack s new s2 r (λ st m. expr_does st (expr_at m.trees i) m)
array_goes stack new s s1 s2 r i at es values there only same empty k = λ script choices fuel b vs stands.
    let st = setting script choices fuel in
    let m = moment b vs s in
    let e : expr_does st (expr_at m.trees i) m ≡ elements_do st (values_of values) (exprs_at (trees_of s1.body.now.code) es) (moment b vs s1) =
    ap (λ (o : Option Tree). expr_does st (as_expr o) m) (tree_held script fuel vs stack s i (array at es) stands there)
    ∙ array_is st m at (exprs_at m.trees es)
    ∙ ap (λ (xs : List held.Value). elements_do st (values_of xs) (exprs_at m.trees es) m) (sym empty)
    ∙ ap (λ (n : Moment). elements_do st (values_of values) (exprs_at n.trees es) n) (sym (same b vs)) in
    subst (λ (o : Out). Keeps script choices fuel b (resume st stack vs.callers o) new s2 r) (sym e) (k script choices fuel b vs (stands_objects script fuel vs stack s s1 only stands))
