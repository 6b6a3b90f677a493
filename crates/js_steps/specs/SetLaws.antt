-- Variables that a statement sets.
use Rattle.std.proofs.Common.{◌≡◌, refl, ap, sym, ◌∙◌, subst, ℕ, List, Option, Some, None, slice_set, slice_get}
use Rattle.std.specs.Prelude.{◌≤◌, Ok, Err}
use Rattle.std.specs.Borrow.{Bor}
use Rattle.js_tree.specs.Script.{Name, ScriptTree}
use Rattle.js_tree.specs.Value.{Value, Object, Locals, gives, with_entry}
use Rattle.js_tree.specs.Evaluate.{setting, onward, set_local, set_name}
use Rattle.js_code.specs.declared.slots.place.Place.{Place}
use Rattle.js_code.specs.declared.slots.place.Place.TheVariants.{Local, Global, Nowhere}
use Rattle.js_code.specs.Names.{distinct, index_in, global_names}
use Rattle.js_code.specs.Places.{table_of, target_of}
use Rattle.js_code.specs.Slots.{slots_of, set_at}
use Rattle.js_code.specs.SlotLaws.{sets_place}
use Rattle.js_code.specs.Parts.{declare, assign, trees_of}
use Rattle.js_value.specs.HeapSeen.{value_of, objects_of}
use Rattle.js_value.specs.declared.heap.value.Value as held
use Rattle.js_simple.specs.Seen.{slots_in}
use Rattle.js_steps.specs.Bodies.{IsBody, names_in}
use Rattle.js_steps.specs.declared.bodies.body.Body.{Body}
use Rattle.js_steps.specs.declared.frames.frame.End.TheVariants as end
use Rattle.js_steps.specs.declared.frames.frame.Flow.TheVariants as step_flow
use Rattle.js_steps.specs.declared.frames.frame.Frame.{Frame}
use Rattle.js_steps.specs.declared.frames.frame.Halt.TheVariants.{Over}
use Rattle.js_steps.specs.declared.frames.frame.Task.TheVariants as next_task
use Rattle.js_steps.specs.declared.frames.state.State.{State}
use Rattle.js_steps.specs.Moment.{Moment, Out, flow, frame_in, flowing}
use Rattle.js_steps.specs.Stack.{resume, scope_in}
use Rattle.js_steps.specs.Stands.{Before, Variables, Stands, Leads, Steps, moment}
use Rattle.js_steps.specs.StepLaws.{stops}
use Rattle.js_steps.specs.VariableLaws.{slot_set, slot_none, target_local, target_global, only_globals}

-- all but variables are the same
pub record SameRest (s s1 : State) : Type 0 where
  pub left : s1.left ≡ s.left
  pub objects : s1.objects ≡ s.objects
  pub body : s1.body ≡ s.body
  pub caught : s1.caught ≡ s.caught

-- only locals are others, and only top-level variables
pub local_rest : (s s1 : State) → s1 ≡ record s { locals = s1.locals } → SameRest s s1
local_rest s s1 h = record { left = ap (λ (x : State). x.left) h; objects = ap (λ (x : State). x.objects) h; body = ap (λ (x : State). x.body) h; caught = ap (λ (x : State). x.caught) h }

pub global_rest : (s s1 : State) → s1 ≡ record s { globals = s1.globals } → SameRest s s1
global_rest s s1 h = record { left = ap (λ (x : State). x.left) h; objects = ap (λ (x : State). x.objects) h; body = ap (λ (x : State). x.body) h; caught = ap (λ (x : State). x.caught) h }

abbrev moment_of : Before → Variables → Bor Body → Option held.Value → ℕ → List Object → Moment
moment_of b vs k caught n os =
    record { trees = trees_of k.now.code; scope = scope_in k.now caught; locals = vs.locals; world = record { left = n; printed = b.printed; taken = b.taken; objects = os; globals = vs.globals } }

moment_same : (b : Before) (vs : Variables) (s s1 : State) → SameRest s s1 → moment b vs s1 ≡ moment b vs s
moment_same b vs s s1 h =
    ap (λ (k : Bor Body). moment_of b vs k s1.caught s1.left (objects_of s1.objects.items)) h.body
    ∙ ap (λ (c : Option held.Value). moment_of b vs s.body c s1.left (objects_of s1.objects.items)) h.caught
    ∙ ap (λ (n : ℕ). moment_of b vs s.body s.caught n (objects_of s1.objects.items)) h.left
    ∙ ap (λ os. moment_of b vs s.body s.caught s.left (objects_of os.items)) h.objects

-- with a local set, and with a top-level variable set
abbrev with_local : Variables → Name → Value → Variables
with_local vs x v = record vs { locals = with_entry x v vs.locals }

abbrev with_global : Variables → Name → Value → Variables
with_global vs x v = record vs { globals = with_entry x v vs.globals }

-- what goes onward with other variables
sets : (script : ScriptTree) (choices : List ℕ) (fuel : ℕ) (b : Before) (vs vs' : Variables) (stack : List Frame) (s s1 : State) (o : Out) → SameRest s s1 → vs'.callers ≡ vs.callers
    → o ≡ gives (flow onward) (moment b vs' s) → Stands script fuel vs' stack s1
    → Leads script choices fuel b (resume (setting script choices fuel) stack vs.callers o) stack s1 (next_task.Follow step_flow.Onward)
sets script choices fuel b vs vs' stack s s1 o h callers e stands = record {
  variables = vs';
  stands = stands;
  is =
      ap (λ (m : Moment). resume (setting script choices fuel) stack vs'.callers (gives (flow onward) m)) (moment_same b vs' s s1 h)
      ∙ ap (resume (setting script choices fuel) stack vs'.callers) (sym e)
      ∙ ap (λ (cs : List Locals). resume (setting script choices fuel) stack cs o) callers;
}

local_stands : (script : ScriptTree) (fuel : ℕ) (vs : Variables) (stack : List Frame) (s s1 : State) (x : Name) (k : ℕ) (v : held.Value) → SameRest s s1 → s1.globals ≡ s.globals
    → s1.locals.items ≡ slice_set s.locals.items k (Some v) → index_in (distinct (names_in s.body.now)) x ≡ Some k
    → Stands script fuel vs stack s → Stands script fuel (with_local vs x (value_of v)) stack s1
local_stands script fuel vs stack s s1 x k v h g e q stands = record {
  body = subst (λ (y : Bor Body). IsBody script y.now) (sym h.body) stands.body;
  locals =
      ap (λ (y : Bor Body). slots_of (distinct (names_in y.now)) (with_entry x (value_of v) vs.locals)) h.body
      ∙ slot_set (names_in s.body.now) x k v vs.locals s.locals.items q stands.locals ∙ ap slots_in (sym e);
  globals = stands.globals ∙ ap (λ y. slots_in y.items) (sym g);
  only = stands.only;
  callers = stands.callers;
  few = subst (λ (n : ℕ). n ≤ fuel) (sym h.left) stands.few;
}

global_stands : (script : ScriptTree) (fuel : ℕ) (vs : Variables) (stack : List Frame) (s s1 : State) (x : Name) (k : ℕ) (v : held.Value) → SameRest s s1 → s1.locals ≡ s.locals
    → s1.globals.items ≡ slice_set s.globals.items k (Some v) → index_in (distinct (global_names script.items)) x ≡ Some k
    → Stands script fuel vs stack s → Stands script fuel (with_global vs x (value_of v)) stack s1
global_stands script fuel vs stack s s1 x k v h g e q stands = record {
  body = subst (λ (y : Bor Body). IsBody script y.now) (sym h.body) stands.body;
  locals = ap (λ (y : Bor Body). slots_of (distinct (names_in y.now)) vs.locals) h.body ∙ stands.locals ∙ ap (λ y. slots_in y.items) (sym g);
  globals = slot_set (global_names script.items) x k v vs.globals s.globals.items q stands.globals ∙ ap slots_in (sym e);
  only = only_globals script x k (value_of v) vs.globals q stands.only;
  callers = stands.callers;
  few = subst (λ (n : ℕ). n ≤ fuel) (sym h.left) stands.few;
}

-- 12.2: a variable that is declared in a slot, and one that has none
pub declares : (stack : List Frame) (s s1 : State) (i at k e : ℕ) (x : Name) (v : held.Value) → slice_get s.body.now.code i ≡ Some (declare at x (Some k) e) → SameRest s s1 → s1.globals ≡ s.globals
    → s1.locals.items ≡ slice_set s.locals.items k (Some v)
    → Steps stack s stack s1 (Ok (next_task.Follow step_flow.Onward)) (λ st m. flowing m (set_local x (value_of v) (frame_in m)))
declares stack s s1 i at k e x v held same g set = λ script choices fuel b vs stands.
    let q : Some k ≡ index_in (distinct (names_in s.body.now)) x = stands.body.code.placed i (declare at x (Some k) e) held in
    sets script choices fuel b vs (with_local vs x (value_of v)) stack s s1 (flowing (moment b vs s) (set_local x (value_of v) (frame_in (moment b vs s)))) same refl refl
    (local_stands script fuel vs stack s s1 x k v same g set (sym q) stands)

pub declares_nowhere : (stack : List Frame) (s : State) (i at e : ℕ) (x : Name) (v : held.Value) → slice_get s.body.now.code i ≡ Some (declare at x None e)
    → Steps stack s stack s (Ok (next_task.Follow step_flow.Onward)) (λ st m. flowing m (set_local x (value_of v) (frame_in m)))
declares_nowhere stack s i at e x v held = λ script choices fuel b vs stands.
    let q : None ≡ index_in (distinct (names_in s.body.now)) x = stands.body.code.placed i (declare at x None e) held in
    sets script choices fuel b vs (with_local vs x (value_of v)) stack s s (flowing (moment b vs s) (set_local x (value_of v) (frame_in (moment b vs s))))
    (record { left = refl; objects = refl; body = refl; caught = refl }) refl refl
    (record {
      body = stands.body;
      locals = slot_none (names_in s.body.now) x (value_of v) vs.locals s.locals.items (sym q) stands.locals;
      globals = stands.globals;
      only = stands.only;
      callers = stands.callers;
      few = stands.few;
    })

-- what an assignment does, by its target
target_sets : (script : ScriptTree) (choices : List ℕ) (fuel : ℕ) (b : Before) (vs : Variables) (stack : List Frame) (s : State) (i at e : ℕ) (x : Name) (target : Place) (v : Value) → slice_get s.body.now.code i ≡ Some (assign at x target e) → Stands script fuel vs stack s
    → (let m = moment b vs s in flowing m (set_name (setting script choices fuel) m.scope at x v (frame_in m)) ≡ flowing m (set_at at target x v (frame_in m)))
target_sets script choices fuel b vs stack s i at e x target v held stands =
    let m = moment b vs s in
    let q : target ≡ target_of (table_of script (names_in s.body.now)) x = stands.body.code.placed i (assign at x target e) held in
    ap (flowing m) (sets_place (setting script choices fuel) m.scope at x v (frame_in m) ∙ ap (λ (p : Place). set_at at p x v (frame_in m)) (sym q))

-- 8.7.2, 11.13: an assignment to a local, to a top-level variable, and to neither
pub assigns_local : (stack : List Frame) (s s1 : State) (i at k e : ℕ) (x : Name) (v : held.Value) → slice_get s.body.now.code i ≡ Some (assign at x (Local k) e) → SameRest s s1 → s1.globals ≡ s.globals
    → s1.locals.items ≡ slice_set s.locals.items k (Some v)
    → Steps stack s stack s1 (Ok (next_task.Follow step_flow.Onward)) (λ st m. flowing m (set_name st m.scope at x (value_of v) (frame_in m)))
assigns_local stack s s1 i at k e x v held same g set = λ script choices fuel b vs stands.
    let m = moment b vs s in
    let q : Local k ≡ target_of (table_of script (names_in s.body.now)) x = stands.body.code.placed i (assign at x (Local k) e) held in
    sets script choices fuel b vs (with_local vs x (value_of v)) stack s s1 (flowing m (set_name (setting script choices fuel) m.scope at x (value_of v) (frame_in m))) same refl
    (target_sets script choices fuel b vs stack s i at e x (Local k) (value_of v) held stands)
    (local_stands script fuel vs stack s s1 x k v same g set (target_local (table_of script (names_in s.body.now)) x k q) stands)

pub assigns_global : (stack : List Frame) (s s1 : State) (i at k e : ℕ) (x : Name) (v : held.Value) → slice_get s.body.now.code i ≡ Some (assign at x (Global k) e) → SameRest s s1 → s1.locals ≡ s.locals
    → s1.globals.items ≡ slice_set s.globals.items k (Some v)
    → Steps stack s stack s1 (Ok (next_task.Follow step_flow.Onward)) (λ st m. flowing m (set_name st m.scope at x (value_of v) (frame_in m)))
assigns_global stack s s1 i at k e x v held same g set = λ script choices fuel b vs stands.
    let m = moment b vs s in
    let q : Global k ≡ target_of (table_of script (names_in s.body.now)) x = stands.body.code.placed i (assign at x (Global k) e) held in
    sets script choices fuel b vs (with_global vs x (value_of v)) stack s s1 (flowing m (set_name (setting script choices fuel) m.scope at x (value_of v) (frame_in m))) same refl
    (target_sets script choices fuel b vs stack s i at e x (Global k) (value_of v) held stands)
    (global_stands script fuel vs stack s s1 x k v same g set (target_global (table_of script (names_in s.body.now)) x k q) stands)

pub assigns_nowhere : (stack : List Frame) (s : State) (i at e : ℕ) (x : Name) (v : Value) → slice_get s.body.now.code i ≡ Some (assign at x Nowhere e)
    → Steps stack s stack s (Err (Over (end.Stuck at))) (λ st m. flowing m (set_name st m.scope at x v (frame_in m)))
assigns_nowhere stack s i at e x v held = λ script choices fuel b vs stands.
    let m = moment b vs s in
    stops script choices fuel b vs stack s (end.Stuck at) (flowing m (set_name (setting script choices fuel) m.scope at x v (frame_in m)))
    (target_sets script choices fuel b vs stack s i at e x Nowhere v held stands)
