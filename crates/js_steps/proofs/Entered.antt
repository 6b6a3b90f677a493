-- A call of a function: its body is begun, and its caller waits.
use Rattle.std.proofs.Common.{◌≡◌, refl, ap, sym, ◌∙◌, subst, arith, eq-eqb, ℕ, suc, List, [], ◌∷◌, ◌++◌, length, map, Option, Some, None, Bool, true, false, ◌<◌, ◌≤◌}
use Rattle.std.specs.Prelude.{◌-◌, ◌==◌, replicate, Result, Ok, Err, if◌then◌else◌}
use Rattle.std.specs.Borrow.{Bor}
use Rattle.std.specs.Result.{IsErrAnd}
use Rattle.std.proofs.lemmas.Bool.{ne_eqb}
use Rattle.std.proofs.lemmas.List.{length-map}
use Rattle.js_tree.specs.Script.{Stmts, Function, ScriptTree}
use Rattle.js_tree.specs.Value as run
use Rattle.js_tree.specs.Value.{Value, World, Outcome, gives, throws, over, and_then, tick}
use Rattle.js_tree.specs.Evaluate.{setting, Scope, Called, Flow, onward, returns, breaks, continues, exec_all, frame, bound, call_result, call_function, scope_of}
use Rattle.js_tree.specs.Laws.{call_does}
use Rattle.js_tree.specs.View.{function_view}
use Rattle.js_tree.specs.declared.tree.JsFunction.{JsFunction}
use Rattle.js_code.specs.Names.{distinct}
use Rattle.js_code.specs.Slots.{slots_of}
use Rattle.js_code.specs.Parts.{stmts_at}
use Rattle.js_value.specs.HeapSeen.{value_of, values_of}
use Rattle.js_value.specs.declared.heap.value.Value as held
use Rattle.js_simple.specs.Seen.{slots_in}
use Rattle.js_steps.specs.Bodies.{IsFunction, names_of_it}
use Rattle.js_steps.specs.declared.bodies.body.Body.{Body}
use Rattle.js_steps.specs.declared.frames.frame.Caller.{Caller}
use Rattle.js_steps.specs.declared.frames.frame.End.TheVariants as end
use Rattle.js_steps.specs.declared.frames.frame.Frame.{Frame}
use Rattle.js_steps.specs.declared.frames.frame.Frame.TheVariants as waiting
use Rattle.js_steps.specs.declared.frames.frame.Halt.{Halt}
use Rattle.js_steps.specs.declared.frames.frame.Halt.TheVariants.{Over}
use Rattle.js_steps.specs.declared.frames.frame.Task.{Task}
use Rattle.js_steps.specs.declared.frames.frame.Task.TheVariants as next
use Rattle.js_steps.specs.declared.frames.frame.Use.{Use}
use Rattle.js_steps.specs.declared.frames.frame.Use.TheVariants.{Needed, Dropped}
use Rattle.js_steps.specs.declared.frames.state.State.{State}
use Rattle.js_steps.specs.Moment.{Moment, Out, in_world, flowing, stmts_do, called_here}
use Rattle.js_steps.specs.Stack.{left, back_in, caller_moment, scope_in, frame_does, resume}
use Rattle.js_steps.specs.Stands.{Before, Variables, Stands, Leads, Keeps, StepsInto, Ticked, moment, world_of}
use Rattle.js_steps.specs.StackLaws.{callers_enter, resume_enter}
use Rattle.js_steps.specs.StepLaws.{stops}
use Rattle.js_steps.specs.TickLaws.{stands_ticked, moment_ticked, tick_is, tick_is_none}
use Rattle.js_steps.proofs.Bound.{bound_stand}
use Rattle.js_steps.proofs.Goes.{same_kept}

-- what a call comes to is the same in any world of its moment
called_in : (m : Moment) (at : ℕ) (u : Use) (w : World) (c : Called) → called_here at u (in_world m w) c ≡ called_here at u m c
called_in m at Needed w (gives None x) = refl
called_in m at Needed w (gives (Some v) x) = refl
called_in m at Dropped w (gives o x) = refl
called_in m at Needed w (throws j v x) = refl
called_in m at Dropped w (throws j v x) = refl
called_in m at Needed w (over e x) = refl
called_in m at Dropped w (over e x) = refl

-- 13.2.1: a call does what its body does, and goes back to the caller's part
leaves : (m n : Moment) (there : Moment → Moment) (at : ℕ) (u : Use) (o : Outcome run.Frame Flow) → ((k : Moment) → there k ≡ in_world m k.world)
    → called_here at u m (call_result o) ≡ left at u (back_in there (flowing n o))
leaves m n there at u (gives (returns v) f) h =
    sym (ap (λ (k : Moment). called_here at u k (gives v k.world)) (h (record n { locals = f.locals; world = f.world })) ∙ called_in m at u f.world (gives v f.world))
leaves m n there at u (gives onward f) h =
    sym (ap (λ (k : Moment). called_here at u k (gives None k.world)) (h (record n { locals = f.locals; world = f.world })) ∙ called_in m at u f.world (gives None f.world))
leaves m n there at u (gives (breaks x) f) h =
    sym (ap (λ (k : Moment). called_here at u k (gives None k.world)) (h (record n { locals = f.locals; world = f.world })) ∙ called_in m at u f.world (gives None f.world))
leaves m n there at u (gives (continues x) f) h =
    sym (ap (λ (k : Moment). called_here at u k (gives None k.world)) (h (record n { locals = f.locals; world = f.world })) ∙ called_in m at u f.world (gives None f.world))
leaves m n there at Needed (throws j v f) h = ap (λ (k : Moment). throws j v k) (sym (h (record n { locals = f.locals; world = f.world })))
leaves m n there at Dropped (throws j v f) h = ap (λ (k : Moment). throws j v k) (sym (h (record n { locals = f.locals; world = f.world })))
leaves m n there at Needed (over e w) h = refl
leaves m n there at Dropped (over e w) h = refl

-- in a call's own scope
scope_there : (b : Body) (f : Bor JsFunction) → b.function ≡ Some f → scope_in b None ≡ scope_of (function_view f.now)
scope_there b f is = ap (λ (o : Option (Bor JsFunction)). let sc : Scope = record { names = names_of_it o; caught = None } in sc) is

module _ (script : ScriptTree) (choices : List ℕ) (fuel : ℕ) (b : Before) (vs : Variables) (stack : List Frame) (s : State) where
  -- a function's body is begun in the slots of another state, and its caller waits
  pub begun : (x : State) (f : Bor JsFunction) (body : Bor Body) (at : ℕ) (u : Use) (values : List held.Value)
      → s.left < fuel → IsFunction script body.now f → Stands script fuel vs stack s → length values ≡ length (function_view f.now).params
      → slots_in x.locals.items ≡ map Some (values_of values) ++ replicate (body.now.slots - length values) None
      → Leads script choices fuel b
      (resume (setting script choices fuel) stack vs.callers (called_here at u (moment b vs s) ((setting script choices fuel).enter (function_view f.now) (values_of values) (world_of b vs s))))
      (stack ++ waiting.Leave at u (record { body = s.body; locals = s.locals; caught = s.caught }) ∷ [])
      (record s { body = body; locals = x.locals; caught = None; spare = x.spare }) (next.Statements body.now.whole)
  begun x f body at u values l isf h count slots =
      let st = setting script choices fuel in
      let g : Function = function_view f.now in
      let args : List Value = values_of values in
      let k : Caller = record { body = s.body; locals = s.locals; caught = s.caught } in
      let s' : State = record s { body = body; locals = x.locals; caught = None; spare = x.spare } in
      let inside : Variables = record { globals = vs.globals; locals = bound g.params args; callers = vs.callers ++ vs.locals ∷ [] } in
      let m : Moment = moment b vs s in
      let n : Moment = moment b inside s' in
      let there : Moment → Moment = caller_moment k vs.locals in
      let fr : run.Frame = frame (bound g.params args) (world_of b vs s) in
      let e : called_here at u m (st.enter g args (world_of b vs s)) ≡ frame_does st (waiting.Leave at u k) vs.locals (stmts_do st (stmts_at n.trees body.now.whole) n) =
      ap (called_here at u m) (call_does script choices fuel g args (world_of b vs s) l)
      ∙ leaves m n there at u (exec_all st (scope_of g) g.body fr) (λ (j : Moment). refl)
      ∙ ap (λ (sc : Scope). left at u (back_in there (flowing n (exec_all st sc g.body fr)))) (sym (scope_there body.now f isf.made.function))
      ∙ ap (λ (ss : Stmts). left at u (back_in there (flowing n (exec_all st n.scope ss fr)))) (sym isf.made.whole) in
      record {
        variables = inside;
        stands = record {
          body = isf.made.body;
          locals =
              ap (λ (o : Option (Bor JsFunction)). slots_of (distinct (names_of_it o)) (bound g.params args)) isf.made.function
              ∙ bound_stand script g values x.locals.items body.now.slots isf.once count isf.made.slots slots;
          globals = h.globals;
          only = h.only;
          callers = callers_enter script stack at u k vs.callers vs.locals (h.body, h.locals) h.callers;
          few = h.few;
        };
        is = resume_enter script st stack at u k vs.callers vs.locals (stmts_do st (stmts_at n.trees body.now.whole) n) h.callers ∙ ap (resume st stack vs.callers) (sym e);
      }

  -- the same, by what was done with the slots and the stack
  pub begun_in : (x : State) (f : Bor JsFunction) (body : Bor Body) (at : ℕ) (u : Use) (values slice : List held.Value) (new : List Frame) (k : Caller) (old : List (Option held.Value))
      → k ≡ record { body = s.body; locals = s.locals; caught = s.caught } → old ≡ []
      → slots_in x.locals.items ≡ slots_in old ++ (map Some (values_of slice) ++ replicate (body.now.slots - length slice) None) → slice ≡ values → new ≡ stack ++ waiting.Leave at u k ∷ []
      → s.left < fuel → IsFunction script body.now f → Stands script fuel vs stack s → length values ≡ length (function_view f.now).params
      → Leads script choices fuel b
      (resume (setting script choices fuel) stack vs.callers (called_here at u (moment b vs s) ((setting script choices fuel).enter (function_view f.now) (values_of values) (world_of b vs s))))
      new (record s { body = body; locals = x.locals; caught = None; spare = x.spare }) (next.Statements body.now.whole)
  begun_in x f body at u values slice new k old aside empty slots same pushed l isf h count =
      let st = setting script choices fuel in
      let all : Out = resume st stack vs.callers (called_here at u (moment b vs s) (st.enter (function_view f.now) (values_of values) (world_of b vs s))) in
      let s' : State = record s { body = body; locals = x.locals; caught = None; spare = x.spare } in
      let filled : slots_in x.locals.items ≡ map Some (values_of values) ++ replicate (body.now.slots - length values) None =
      slots
      ∙ ap (λ (os : List (Option held.Value)). slots_in os ++ (map Some (values_of slice) ++ replicate (body.now.slots - length slice) None)) empty
      ∙ ap (λ (vs : List held.Value). let out : List (Option Value) = map Some (values_of vs) ++ replicate (body.now.slots - length vs) None in out) same in
      subst (λ (fs : List Frame). Leads script choices fuel b all fs s' (next.Statements body.now.whole)) (sym pushed)
      (subst (λ (c : Caller). Leads script choices fuel b all (stack ++ waiting.Leave at u c ∷ []) s' (next.Statements body.now.whole)) (sym aside) (begun x f body at u values l isf h count filled))

  -- what a call does by its tick, where there are as many arguments as parameters
  abbrev after_tick : Function → List Value → World → ℕ → Bool → Outcome World (Unit {0}) → Called
  after_tick g args w at t o =
      let stuck : Called = over (run.Stuck at) w in
      if t then and_then o (λ _ w. (setting script choices fuel).enter g args w) else stuck

  -- another number of arguments
  pub wrong_count : (f : Bor JsFunction) (body : Body) (at : ℕ) (u : Use) (values : List held.Value) → (length values ≡ body.params → ⊥) → IsFunction script body f
      → Keeps script choices fuel b
      (resume (setting script choices fuel) stack vs.callers (called_here at u (moment b vs s) (call_function (setting script choices fuel) at (Some (function_view f.now)) (values_of values) (world_of b vs s))))
      stack s (Err (Over (end.Stuck at)))
  wrong_count f body at u values ne isf =
      let g : Function = function_view f.now in
      let args : List Value = values_of values in
      let w : World = world_of b vs s in
      let other : (length args == length g.params) ≡ false = ne_eqb (length args) (length g.params) (λ q. ne (sym (length-map values value_of) ∙ q ∙ sym isf.made.params)) in
      stops script choices fuel b vs stack s (end.Stuck at) (called_here at u (moment b vs s) (call_function (setting script choices fuel) at (Some g) args w))
      (ap (λ (t : Bool). called_here at u (moment b vs s) (after_tick g args w at t (tick w))) other)

  -- as many arguments as parameters, and a tick
  pub right_count : (s1 s2 : State) (new : List Frame) (r : Result Task Halt) (f : Bor JsFunction) (body : Body) (at : ℕ) (u : Use) (values : List held.Value) → Ticked s s1 (Ok tt) → length values ≡ body.params
      → IsFunction script body f → Stands script fuel vs stack s
      → (length values ≡ length (function_view f.now).params → StepsInto f body stack s1 new s2 r (λ st m. called_here at u m (st.enter (function_view f.now) (values_of values) m.world)))
      → Keeps script choices fuel b
      (resume (setting script choices fuel) stack vs.callers (called_here at u (moment b vs s) (call_function (setting script choices fuel) at (Some (function_view f.now)) (values_of values) (world_of b vs s))))
      new s2 r
  right_count s1 s2 new r f body at u values t count isf h steps =
      let st = setting script choices fuel in
      let g : Function = function_view f.now in
      let args : List Value = values_of values in
      let m : Moment = moment b vs s in
      let w : World = world_of b vs s in
      let w1 : World = world_of b vs s1 in
      let same : (length args == length g.params) ≡ true = eq-eqb (length args) (length g.params) (length-map values value_of ∙ count ∙ isf.made.params) in
      let e : s.left ≡ suc s1.left = t.0 in
      let few : s.left ≤ fuel = h.few in
      let less : s1.left < fuel = omega (arith, e, few) in
      subst (λ (o : Out). Keeps script choices fuel b (resume st stack vs.callers o) new s2 r)
      (sym
      (ap (λ (q : Bool). called_here at u m (after_tick g args w at q (tick w))) same
      ∙ ap (λ (o : Outcome World (Unit {0})). called_here at u m (after_tick g args w at true o)) (tick_is b vs s s1 t)
      ∙ sym (called_in m at u w1 (st.enter g args w1))
      ∙ ap (λ (n : Moment). called_here at u n (st.enter g args w1)) (sym (moment_ticked b vs s s1 t))))
      (steps (count ∙ isf.made.params) script choices fuel b vs less isf (stands_ticked script fuel vs stack s s1 t h))

  -- no tick is left for it
  pub no_tick : (s1 : State) (r : Result Task Halt) (x : Halt) (f : Bor JsFunction) (body : Body) (at : ℕ) (u : Use) (values : List held.Value) → Ticked s s1 (Err x) → length values ≡ body.params → IsErrAnd r (λ y. y ≡ x)
      → IsFunction script body f
      → Keeps script choices fuel b
      (resume (setting script choices fuel) stack vs.callers (called_here at u (moment b vs s) (call_function (setting script choices fuel) at (Some (function_view f.now)) (values_of values) (world_of b vs s))))
      stack s1 r
  no_tick s1 r x f body at u values t count is isf =
      let st = setting script choices fuel in
      let g : Function = function_view f.now in
      let args : List Value = values_of values in
      let m : Moment = moment b vs s in
      let w : World = world_of b vs s in
      let out : Out = called_here at u m (call_function st at (Some g) args w) in
      let same : (length args == length g.params) ≡ true = eq-eqb (length args) (length g.params) (length-map values value_of ∙ count ∙ isf.made.params) in
      let none : out ≡ over run.Going w =
      ap (λ (q : Bool). called_here at u m (after_tick g args w at q (tick w))) same
      ∙ ap (λ (o : Outcome World (Unit {0})). called_here at u m (after_tick g args w at true o)) (tick_is_none b vs s t.0) in
      subst (λ (z : State). Keeps script choices fuel b (resume st stack vs.callers out) stack z r) (sym t.1)
      (same_kept script choices fuel b (resume st stack vs.callers out) stack s r x is
      (subst (λ (y : Halt). Keeps script choices fuel b (resume st stack vs.callers out) stack s (Err y)) (sym t.2)
      (stops script choices fuel b vs stack s end.Going out none)))
