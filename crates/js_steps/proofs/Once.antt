-- Statements that are done at once, by their forms.
use Rattle.std.proofs.Common.{◌≡◌, refl, ap, sym, ◌∙◌, subst, ℕ, List, Some, None, Bool, true, false, if◌then◌else◌, slice_get, slice_set}
use Rattle.std.specs.Prelude.{Result, Ok, Err}
use Rattle.std.specs.Result.{IsErrAnd}
use Rattle.std.specs.Borrow.{Bor}
use Rattle.js_tree.specs.Script as form
use Rattle.js_tree.specs.Script.{Name}
use Rattle.js_tree.specs.Value.{Value, Object}
use Rattle.js_tree.specs.Operation.{stored}
use Rattle.js_tree.specs.Evaluate.{Setting, setting, eval, set_local, set_name}
use Rattle.js_code.specs.declared.slots.place.Place.TheVariants.{Local, Global}
use Rattle.js_code.specs.Parts.{Part, declare, assign, expr_at, trees_of}
use Rattle.js_value.specs.HeapSeen.{value_of, objects_of}
use Rattle.js_value.specs.declared.heap.value.Value as held
use Rattle.js_simple.specs.Simple.{IsSimpleAt}
use Rattle.js_steps.specs.declared.bodies.body.Body.{Body}
use Rattle.js_steps.specs.declared.frames.frame.End.TheVariants as end
use Rattle.js_steps.specs.declared.frames.frame.Flow.TheVariants.{Onward}
use Rattle.js_steps.specs.declared.frames.frame.Frame.{Frame}
use Rattle.js_steps.specs.declared.frames.frame.Halt.{Halt}
use Rattle.js_steps.specs.declared.frames.frame.Halt.TheVariants.{Over}
use Rattle.js_steps.specs.declared.frames.frame.Task.{Task}
use Rattle.js_steps.specs.declared.frames.frame.Task.TheVariants.{Follow}
use Rattle.js_steps.specs.declared.frames.state.State.{State}
use Rattle.js_steps.specs.Moment.{Moment, Out, frame_in, flowing, in_world, expr_does, stmt_does, with_value, done_here}
use Rattle.js_steps.specs.PartWaits.{stmt_first}
use Rattle.js_steps.specs.Stands.{Steps, Finds, OnlyObjects, moment}
use Rattle.js_steps.specs.FoundLaws.{found_value, found_stop, value_at}
use Rattle.js_steps.specs.PartLaws.{steps_as, done_step}
use Rattle.js_steps.specs.SetLaws.{local_rest, global_rest, declares, assigns_local, assigns_global}
use Rattle.js_steps.specs.WayLaws.{value_same}
use Rattle.js_steps.specs.Done.{Did}
use Rattle.js_steps.proofs.Begins.{declare_is, assign_is, store_is}

-- what `?` hands on stops as what it was handed
pub stopped_did : (stack : List Frame) (s s1 : State) (r : Result Bool Halt) (x : Halt) (part : Setting → Moment → Out) → IsErrAnd r (λ y. y ≡ x) → Steps stack s stack s1 (Err x) part → Did stack s s1 r part
stopped_did stack s s1 (Ok b) x part h k = absurd h
stopped_did stack s s1 (Err y) x part h k = subst (λ (z : Halt). Steps stack s stack s1 (Err z) part) (sym h) k

-- a statement that was done, and one that was not begun
pub did_so : (stack : List Frame) (s s1 : State) (b : Bool) (part : Setting → Moment → Out) → Did stack s s1 (Ok b) part → b ≡ true → Steps stack s stack s1 (Ok (Follow Onward)) part
did_so stack s s1 true part d h = d
did_so stack s s1 false part d h = cc

pub did_not : (stack : List Frame) (s s1 : State) (b : Bool) (part : Setting → Moment → Out) → Did stack s s1 (Ok b) part → b ≡ false → s1 ≡ s
did_not stack s s1 true part d h = cc
did_not stack s s1 false part d h = d

-- a result of a statement, said of the part that it is
pub did_as : (stack : List Frame) (s s1 : State) (r : Result Bool Halt) (part part' : Setting → Moment → Out)
    → ((q : Result Task Halt) → Steps stack s stack s1 q part → Steps stack s stack s1 q part') → Did stack s s1 r part → Did stack s s1 r part'
did_as stack s s1 (Ok true) part part' f d = f (Ok (Follow Onward)) d
did_as stack s s1 (Ok false) part part' f d = d
did_as stack s s1 (Err x) part part' f d = f (Err x) d

-- the part is still held
still : (s s1 : State) (i : ℕ) (p : Part) → OnlyObjects s s1 → slice_get s.body.now.code i ≡ Some p → slice_get s1.body.now.code i ≡ Some p
still s s1 i p only h = ap (λ (z : Bor Body). slice_get z.now.code i) only.body ∙ h

abbrev declare_first : Name → Setting → Value → Moment → Out
declare_first x st v n = flowing n (set_local x v (frame_in n))

abbrev assign_first : ℕ → Name → Setting → Value → Moment → Out
assign_first at x st v n = flowing n (set_name st n.scope at x v (frame_in n))

declare_as : (stack : List Frame) (s s' : State) (r : Result Task Halt) (at e : ℕ) (x : Name) → Steps stack s stack s' r (λ st m. with_value (expr_does st (expr_at m.trees e) m) (declare_first x st))
    → Steps stack s stack s' r (λ st m. stmt_does st (form.declare at x (expr_at m.trees e)) m)
declare_as stack s s' r at e x k =
    steps_as stack stack s s' r (λ st m. with_value (expr_does st (expr_at m.trees e) m) (declare_first x st)) (λ st m. stmt_does st (form.declare at x (expr_at m.trees e)) m)
    (λ script choices fuel b vs. declare_is (setting script choices fuel) (moment b vs s) at x (expr_at (trees_of s.body.now.code) e)) k

assign_as : (stack : List Frame) (s s' : State) (r : Result Task Halt) (at e : ℕ) (x : Name) → Steps stack s stack s' r (λ st m. with_value (expr_does st (expr_at m.trees e) m) (assign_first at x st))
    → Steps stack s stack s' r (λ st m. stmt_does st (form.assign at x (expr_at m.trees e)) m)
assign_as stack s s' r at e x k =
    steps_as stack stack s s' r (λ st m. with_value (expr_does st (expr_at m.trees e) m) (assign_first at x st)) (λ st m. stmt_does st (form.assign at x (expr_at m.trees e)) m)
    (λ script choices fuel b vs. assign_is (setting script choices fuel) (moment b vs s) at x (expr_at (trees_of s.body.now.code) e)) k

-- 12.2: a local that is declared
pub declare_did : (stack : List Frame) (s s1 s2 : State) (i at k e : ℕ) (x : Name) (v : held.Value) → slice_get s.body.now.code i ≡ Some (declare at x (Some k) e) → OnlyObjects s s1 → Finds value_of s s1 (Ok v) (value_at e)
    → s2 ≡ record s1 { locals = s2.locals } → s2.locals.items ≡ slice_set s1.locals.items k (Some v)
    → Steps stack s stack s2 (Ok (Follow Onward)) (λ st m. stmt_does st (form.declare at x (expr_at m.trees e)) m)
declare_did stack s s1 s2 i at k e x v held only found same set =
    declare_as stack s s2 (Ok (Follow Onward)) at e x
    (found_value stack stack s s1 s2 v (Ok (Follow Onward)) e (declare_first x) only found
    (declares stack s1 s2 i at k e x v (still s s1 i _ only held) (local_rest s1 s2 same) (ap (λ (y : State). y.globals) same) set))

pub declare_stops : (stack : List Frame) (s s1 : State) (h : Halt) (at e : ℕ) (x : Name) → Finds value_of s s1 (Err h) (value_at e)
    → Steps stack s stack s1 (Err h) (λ st m. stmt_does st (form.declare at x (expr_at m.trees e)) m)
declare_stops stack s s1 h at e x found = declare_as stack s s1 (Err h) at e x (found_stop stack s s1 h e (declare_first x) found)

-- 11.13: a variable that is set
pub local_did : (stack : List Frame) (s s1 s2 : State) (i at k e : ℕ) (x : Name) (v : held.Value) → slice_get s.body.now.code i ≡ Some (assign at x (Local k) e) → OnlyObjects s s1 → Finds value_of s s1 (Ok v) (value_at e)
    → s2 ≡ record s1 { locals = s2.locals } → s2.locals.items ≡ slice_set s1.locals.items k (Some v)
    → Steps stack s stack s2 (Ok (Follow Onward)) (λ st m. stmt_does st (form.assign at x (expr_at m.trees e)) m)
local_did stack s s1 s2 i at k e x v held only found same set =
    assign_as stack s s2 (Ok (Follow Onward)) at e x
    (found_value stack stack s s1 s2 v (Ok (Follow Onward)) e (assign_first at x) only found
    (assigns_local stack s1 s2 i at k e x v (still s s1 i _ only held) (local_rest s1 s2 same) (ap (λ (y : State). y.globals) same) set))

pub global_did : (stack : List Frame) (s s1 s2 : State) (i at k e : ℕ) (x : Name) (v : held.Value) → slice_get s.body.now.code i ≡ Some (assign at x (Global k) e) → OnlyObjects s s1 → Finds value_of s s1 (Ok v) (value_at e)
    → s2 ≡ record s1 { globals = s2.globals } → s2.globals.items ≡ slice_set s1.globals.items k (Some v)
    → Steps stack s stack s2 (Ok (Follow Onward)) (λ st m. stmt_does st (form.assign at x (expr_at m.trees e)) m)
global_did stack s s1 s2 i at k e x v held only found same set =
    assign_as stack s s2 (Ok (Follow Onward)) at e x
    (found_value stack stack s s1 s2 v (Ok (Follow Onward)) e (assign_first at x) only found
    (assigns_global stack s1 s2 i at k e x v (still s s1 i _ only held) (global_rest s1 s2 same) (ap (λ (y : State). y.locals) same) set))

pub assign_stops : (stack : List Frame) (s s1 : State) (h : Halt) (at e : ℕ) (x : Name) → Finds value_of s s1 (Err h) (value_at e)
    → Steps stack s stack s1 (Err h) (λ st m. stmt_does st (form.assign at x (expr_at m.trees e)) m)
assign_stops stack s s1 h at e x found = assign_as stack s s1 (Err h) at e x (found_stop stack s s1 h e (assign_first at x) found)

-- 8.7.2: an element that is set, with two values, one and none
abbrev pub store_third : ℕ → (u k : Value) → Setting → Value → Moment → Out
store_third at u k st v n = done_here at (stored n.world.objects u k v) n

abbrev pub store_second : (at x : ℕ) → Value → Setting → Value → Moment → Out
store_second at x u st k n = with_value (expr_does st (expr_at n.trees x) n) (store_third at u k st)

abbrev pub store_first : (at i x : ℕ) → Setting → Value → Moment → Out
store_first at i x st u n = with_value (expr_does st (expr_at n.trees i) n) (store_second at x u st)

store_here : (st : Setting) (m : Moment) (at e i x : ℕ)
    → stmt_does st (form.store at (expr_at m.trees e) (expr_at m.trees i) (expr_at m.trees x)) m ≡ with_value (expr_does st (expr_at m.trees e) m) (store_first at i x st)
store_here st m at e i x =
    store_is st m at (expr_at m.trees e) (expr_at m.trees i) (expr_at m.trees x)
    ∙ value_same m (eval st m.scope m.locals (expr_at m.trees e) m.world) (stmt_first st (form.store at (expr_at m.trees e) (expr_at m.trees i) (expr_at m.trees x))) (store_first at i x st)
    (λ u w. value_same (in_world m w) (eval st m.scope m.locals (expr_at m.trees i) w) (λ k n. with_value (expr_does st (expr_at m.trees x) n) (store_third at u k st)) (store_second at x u st) (λ k y. refl))

pub store_as : (stack : List Frame) (s s' : State) (r : Result Task Halt) (at e i x : ℕ) → Steps stack s stack s' r (λ st m. with_value (expr_does st (expr_at m.trees e) m) (store_first at i x st))
    → Steps stack s stack s' r (λ st m. stmt_does st (form.store at (expr_at m.trees e) (expr_at m.trees i) (expr_at m.trees x)) m)
store_as stack s s' r at e i x k =
    steps_as stack stack s s' r (λ st m. with_value (expr_does st (expr_at m.trees e) m) (store_first at i x st)) (λ st m. stmt_does st (form.store at (expr_at m.trees e) (expr_at m.trees i) (expr_at m.trees x)) m)
    (λ script choices fuel b vs. store_here (setting script choices fuel) (moment b vs s) at e i x) k

-- an expression that is still there has no call in it
pub stays_simple : (s s1 : State) (i : ℕ) → OnlyObjects s s1 → IsSimpleAt s.body.now.code i → IsSimpleAt s1.body.now.code i
stays_simple s s1 i only h = subst (λ (z : Bor Body). IsSimpleAt z.now.code i) (sym only.body) h

-- how a statement goes on after an operation
abbrev pub after : ℕ → Bool → Result Task Halt
after at ok = if ok then Ok (Follow Onward) else Err (Over (end.Stuck at))

pub goes_on : (at : ℕ) (ok : Bool) → ok ≡ true → Ok (Follow Onward) ≡ after at ok
goes_on at true h = refl
goes_on at false h = cc

pub is_stuck : (at : ℕ) (ok : Bool) → ok ≡ false → Err (Over (end.Stuck at)) ≡ after at ok
is_stuck at false h = refl
is_stuck at true h = cc

pub store_did : (stack : List Frame) (s s1 s2 s3 s4 : State) (at e i x : ℕ) (u k v : held.Value) (ok : Bool) (r : Result Task Halt) → OnlyObjects s s1 → Finds value_of s s1 (Ok u) (value_at e)
    → OnlyObjects s1 s2 → Finds value_of s1 s2 (Ok k) (value_at i) → OnlyObjects s2 s3 → Finds value_of s2 s3 (Ok v) (value_at x) → OnlyObjects s3 s4
    → stored (objects_of s3.objects.items) (value_of u) (value_of k) (value_of v) ≡ (if ok then Some (objects_of s4.objects.items) else None) → (ok ≡ false → objects_of s4.objects.items ≡ objects_of s3.objects.items)
    → r ≡ after at ok
    → Steps stack s stack s4 r (λ st m. stmt_does st (form.store at (expr_at m.trees e) (expr_at m.trees i) (expr_at m.trees x)) m)
store_did stack s s1 s2 s3 s4 at e i x u k v ok r only1 found1 only2 found2 only3 found3 only4 is same q =
    store_as stack s s4 r at e i x
    (found_value stack stack s s1 s4 u r e (store_first at i x) only1 found1
    (found_value stack stack s1 s2 s4 k r i (store_second at x (value_of u)) only2 found2
    (found_value stack stack s2 s3 s4 v r x (store_third at (value_of u) (value_of k)) only3 found3
    (done_step stack s3 s4 at ok r (λ (os : List Object). stored os (value_of u) (value_of k) (value_of v)) only4 is same q))))

pub store_stops : (stack : List Frame) (s s1 : State) (h : Halt) (at e i x : ℕ) → Finds value_of s s1 (Err h) (value_at e)
    → Steps stack s stack s1 (Err h) (λ st m. stmt_does st (form.store at (expr_at m.trees e) (expr_at m.trees i) (expr_at m.trees x)) m)
store_stops stack s s1 h at e i x found = store_as stack s s1 (Err h) at e i x (found_stop stack s s1 h e (store_first at i x) found)

pub store_stops_second : (stack : List Frame) (s s1 s2 : State) (h : Halt) (at e i x : ℕ) (u : held.Value) → OnlyObjects s s1 → Finds value_of s s1 (Ok u) (value_at e) → Finds value_of s1 s2 (Err h) (value_at i)
    → Steps stack s stack s2 (Err h) (λ st m. stmt_does st (form.store at (expr_at m.trees e) (expr_at m.trees i) (expr_at m.trees x)) m)
store_stops_second stack s s1 s2 h at e i x u only1 found1 found =
    store_as stack s s2 (Err h) at e i x
    (found_value stack stack s s1 s2 u (Err h) e (store_first at i x) only1 found1 (found_stop stack s1 s2 h i (store_second at x (value_of u)) found))

pub store_stops_third : (stack : List Frame) (s s1 s2 s3 : State) (h : Halt) (at e i x : ℕ) (u k : held.Value) → OnlyObjects s s1 → Finds value_of s s1 (Ok u) (value_at e)
    → OnlyObjects s1 s2 → Finds value_of s1 s2 (Ok k) (value_at i) → Finds value_of s2 s3 (Err h) (value_at x)
    → Steps stack s stack s3 (Err h) (λ st m. stmt_does st (form.store at (expr_at m.trees e) (expr_at m.trees i) (expr_at m.trees x)) m)
store_stops_third stack s s1 s2 s3 h at e i x u k only1 found1 only2 found2 found =
    store_as stack s s3 (Err h) at e i x
    (found_value stack stack s s1 s3 u (Err h) e (store_first at i x) only1 found1
    (found_value stack stack s1 s2 s3 k (Err h) i (store_second at x (value_of u)) only2 found2 (found_stop stack s2 s3 h x (store_third at (value_of u) (value_of k)) found)))

-- the same of a step
pub stopped_steps : (stack : List Frame) (s s1 : State) (r : Result Task Halt) (x : Halt) (part : Setting → Moment → Out) → IsErrAnd r (λ y. y ≡ x) → Steps stack s stack s1 (Err x) part → Steps stack s stack s1 r part
stopped_steps stack s s1 (Ok b) x part h k = absurd h
stopped_steps stack s s1 (Err y) x part h k = subst (λ (z : Halt). Steps stack s stack s1 (Err z) part) (sym h) k
