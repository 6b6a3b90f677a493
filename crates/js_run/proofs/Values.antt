-- The value of an expression outside functions.
use Rattle.std.proofs.Common.{◌≡◌, refl, ap, sym, ◌∙◌, subst, ℕ, ◌≤◌, List, [], ◌++◌, append_assoc, Option, None, Bool, true, false, true≢false}
use Rattle.std.specs.Prelude.{Result, Ok, Err}
use Rattle.std.specs.Result.{IsErrAnd}
use Rattle.std.specs.Borrow.{Bor}
use Rattle.gj_base.specs.Counts.{Begins}
use Rattle.gj_base.specs.Sink.{SinkState}
use Rattle.js_tree.specs.declared.tree.JsFunction.{JsFunction}
use Rattle.js_tree.specs.Script.{Expr, ScriptTree}
use Rattle.js_tree.specs.Value as run
use Rattle.js_tree.specs.Value.{Value, World, Outcome, gives, throws, over, and_then}
use Rattle.js_tree.specs.Evaluate.{Scope, Called, setting, eval}
use Rattle.js_tree.specs.ScriptRun as whole
use Rattle.js_tree.specs.ScriptRun.{ScriptResult, script_run, result_of, top_scope}
use Rattle.js_code.specs.Names.{distinct}
use Rattle.js_code.specs.Slots.{slots_of}
use Rattle.js_code.specs.Parts.{expr_at, trees_of}
use Rattle.js_value.specs.HeapSeen.{value_of, objects_of}
use Rattle.js_value.specs.declared.heap.value.Value as held
use Rattle.js_simple.specs.Seen.{slots_in}
use Rattle.js_steps.specs.Bodies.{IsBody, IsProgram, IsValueBody, names_in, names_of_it}
use Rattle.js_steps.specs.declared.bodies.body.Body.{Body}
use Rattle.js_steps.specs.declared.frames.frame.Frame.{Frame}
use Rattle.js_steps.specs.declared.frames.frame.Task.{Task}
use Rattle.js_steps.specs.declared.frames.frame.Task.TheVariants as next
use Rattle.js_steps.specs.declared.frames.state.Env.{Env}
use Rattle.js_steps.specs.declared.frames.state.State.{State}
use Rattle.js_steps.specs.Moment.{Moment, value, flow, Out, valued}
use Rattle.js_steps.specs.Stack.{scope_in, resume, task_does}
use Rattle.js_steps.specs.Stands.{Before, Variables, Stands, moment, world_of}
use Rattle.js_run.specs.declared.walks.stop.Stop.{Stop}
use Rattle.js_run.specs.Stays.{world_at}
use Rattle.js_run.specs.Walks.{Goes, Walks}
use Rattle.js_run.specs.WalkLaws.{moves_then}
use Rattle.js_run.specs.Ends.{IsAnswer}
use Rattle.js_run.specs.Runs.{BeginsWith}
use Rattle.js_run.specs.Points.{Rest, PrintsOn, Point, Reached, Stopped, Stage, IsOutside, beginning, value_then, value_in}
use Rattle.js_run.proofs.Halts.{ComesTo, begins_same, begins_first, agrees_rest, stops}

-- an expression's outcome, from what its part came to
abbrev back : Out → Outcome World Value
back (gives (value v) m) = gives v m.world
back (gives (flow f) m) = over run.Going m.world
back (throws at v m) = throws at v m.world
back (over e w) = over e w

back_valued : (m : Moment) (o : Outcome World Value) → back (valued m o) ≡ o
back_valued m (gives v w) = refl
back_valued m (throws at v w) = refl
back_valued m (over e w) = refl

abbrev is_valued : Out → Bool
is_valued (gives (flow f) m) = false
is_valued _ = true

valued_is : (m : Moment) (o : Outcome World Value) → is_valued (valued m o) ≡ true
valued_is m (gives v w) = refl
valued_is m (throws at v w) = refl
valued_is m (over e w) = refl

-- what is printed up to a value begins what is printed in the end
value_later : (m : Moment) (o : Outcome World Value) (more : Value → World → Called) → ((v : Value) (w : World) → Begins w.printed (whole.world_of (more v w)).printed)
    → Begins (world_at (valued m o)).printed (whole.world_of (and_then o more)).printed
value_later m (gives v w) more h = h v w
value_later m (throws at v w) more h = begins_same w.printed
value_later m (over e w) more h = begins_same w.printed

value_comes : (script : ScriptTree) (choices : List ℕ) (budget : ℕ) (m : Moment) (o : Outcome World Value) (more : Value → World → Called)
    → ((v : Value) (w : World) → Begins w.printed (whole.world_of (more v w)).printed) → result_of budget (and_then o more) ≡ script_run script choices budget
    → ComesTo script choices budget (valued m o)
value_comes script choices budget m o more h e = record {
  overs = λ x w q. ap (λ (y : Outcome World Value). result_of budget (and_then y more)) (ap back q ∙ back_valued m o) ∙ e;
  later = subst (λ (r : ScriptResult). Begins (world_at (valued m o)).printed r.printed) e (value_later m o more h);
}

-- the variables outside functions
abbrev at_top : Variables → Variables
at_top vs = record { globals = vs.globals; locals = []; callers = [] }

abbrev world_with : Before → Variables → ℕ → List run.Object → World
world_with b vs n os = record { left = n; printed = b.printed; taken = b.taken; objects = os; globals = vs.globals }

module _ (script : ScriptTree) (budget : ℕ) (b : Before) (vs : Variables) (s s1 : State) (body : Bor Body) (e : Expr) (o : IsOutside s s1 body) (h : IsValueBody script body.now e) where
  stands_outside : Stands script budget vs [] s → Stands script budget (at_top vs) [] s1
  stands_outside st = record {
    body = subst (λ (x : Bor Body). IsBody script x.now) (sym o.body_is) h.body;
    locals =
        ap (λ (x : Bor Body). slots_of (distinct (names_in x.now)) []) o.body_is
        ∙ ap (λ (f : Option (Bor JsFunction)). slots_of (distinct (names_of_it f)) []) h.function
        ∙ ap slots_in (sym o.locals);
    globals = st.globals ∙ ap (λ x. slots_in x.items) (sym o.globals);
    only = st.only;
    callers = refl;
    few = subst (λ (n : ℕ). n ≤ budget) (sym o.left) st.few;
  }

  scope_outside : scope_in s1.body.now s1.caught ≡ top_scope
  scope_outside =
      ap (λ (x : Bor Body). scope_in x.now s1.caught) o.body_is
      ∙ ap (λ (c : Option held.Value). scope_in body.now c) o.caught
      ∙ ap (λ (f : Option (Bor JsFunction)). let sc : Scope = record { names = names_of_it f; caught = None } in sc) h.function

  world_outside : world_of b (at_top vs) s1 ≡ world_of b vs s
  world_outside =
      ap (λ (n : ℕ). world_with b vs n (objects_of s1.objects.items)) o.left
      ∙ ap (λ os. world_with b vs s.left (objects_of os.items)) o.objects

  expr_outside : expr_at (trees_of s1.body.now.code) body.now.whole ≡ e
  expr_outside = ap (λ (x : Bor Body). expr_at (trees_of x.now.code) body.now.whole) o.body_is ∙ h.whole

  -- the part of the code is the expression
  part_outside : (choices : List ℕ)
      → task_does (setting script choices budget) (next.Evaluate body.now.whole) (moment b (at_top vs) s1) ≡ valued (moment b (at_top vs) s1) (eval (setting script choices budget) top_scope [] e (world_of b vs s))
  part_outside choices =
      let m = moment b (at_top vs) s1 in
      let st = setting script choices budget in
      ap (λ (x : Expr). valued m (eval st m.scope [] x m.world)) expr_outside
      ∙ ap (λ (sc : Scope). valued m (eval st sc [] e m.world)) scope_outside
      ∙ ap (λ (w : World). valued m (eval st top_scope [] e w)) world_outside

module _ (env : Env) (script : ScriptTree) (budget : ℕ) (t0 t1 t2 : List ℕ) (k0 k1 k2 : SinkState) (s s1 s2 : State) (body : Bor Body) (e : Expr) (more : Value → Rest) (stack : List Frame) (program : IsProgram script env.functions.now) (h : IsValueBody script body.now e)
    (on : (v : Value) → PrintsOn script budget (more v)) (o : IsOutside s s1 body) (reached : Reached script budget t0 t1 k0 k1 s (value_then e more)) where
  module _ (r : Result Task Stop) (w : Walks env [] s1 t1 t2 k1 k2 stack s2 r (λ st. task_does st (next.Evaluate body.now.whole))) (choices : List ℕ) (a : BeginsWith (reached.numbers ++ w.numbers) choices) where
    abbrev point : Point script choices budget reached.numbers k0 k1 s (value_then e more)
    point = reached.at choices (begins_first choices reached.numbers w.numbers a)

    abbrev here : Moment
    here = moment point.before (at_top point.variables) s1

    abbrev came : Outcome World Value
    came = eval (setting script choices budget) top_scope [] e (world_of point.before point.variables s)

    value_goes : Goes script choices budget point.before (valued here came) w.numbers k1 k2 stack s2 r
    value_goes =
        subst (λ (x : Out). Goes script choices budget point.before x w.numbers k1 k2 stack s2 r) (part_outside script budget point.before point.variables s s1 body e o h choices)
        (w.goes script choices budget point.before (at_top point.variables) program (stands_outside script budget point.before point.variables s s1 body e o h point.stands)
        (agrees_rest choices reached.numbers w.numbers point.before.taken point.moves.count a))

    value_all : ComesTo script choices budget (valued here came)
    value_all = value_comes script choices budget here came (λ v w. more v (setting script choices budget) w) (λ v w. on v choices w) point.is

  took : (ms : List ℕ) → t2 ≡ t1 ++ ms → t2 ≡ t0 ++ (reached.numbers ++ ms)
  took ms e = e ∙ ap (λ (ns : List ℕ). ns ++ ms) reached.took ∙ append_assoc t0 reached.numbers ms

  -- it was stopped
  pub value_stops : (stop : Stop) → Walks env [] s1 t1 t2 k1 k2 stack s2 (Err stop) (λ st. task_does st (next.Evaluate body.now.whole)) → Stopped script budget t0 t2 k0 k2 s2 stop
  value_stops stop w = record {
    numbers = reached.numbers ++ w.numbers;
    took = took w.numbers w.took;
    at = λ choices a.
        let p = point (Err stop) w choices a in
        stops script choices budget stop p.before (valued (here (Err stop) w choices a) (came (Err stop) w choices a)) reached.numbers w.numbers k0 k1 k2 stack s2 (value_all (Err stop) w choices a) p.moves
        (value_goes (Err stop) w choices a);
  }

  -- it came to an end
  pub value_found : (t : Task) → IsAnswer t → stack ≡ [] → Walks env [] s1 t1 t2 k1 k2 stack s2 (Ok t) (λ st. task_does st (next.Evaluate body.now.whole))
      → Stage script budget t0 t2 k0 k2 s2 (value_in t) (λ v. more (value_of v))
  value_found (next.Give v) i z w = record {
    numbers = reached.numbers ++ w.numbers;
    took = took w.numbers w.took;
    at = λ choices a.
        let st = setting script choices budget in
        let p = point (Ok (next.Give v)) w choices a in
        let m = here (Ok (next.Give v)) w choices a in
        let c = came (Ok (next.Give v)) w choices a in
        let g = value_goes (Ok (next.Give v)) w choices a in
        let q = subst (λ (fs : List Frame). resume st fs g.2.variables.callers (task_does st (next.Give v) (moment g.0 g.2.variables s2)) ≡ valued m c) z g.2.is in
        record {
          before = g.0;
          variables = g.2.variables;
          moves = moves_then beginning p.before g.0 reached.numbers w.numbers k0 k1 k2 p.moves g.1;
          stands = subst (λ (fs : List Frame). Stands script budget g.2.variables fs s2) z g.2.stands;
          is = ap (λ (y : Outcome World Value). result_of budget (and_then y (λ v w. more v st w))) (ap back q ∙ back_valued m c) ∙ p.is;
        };
  }
  value_found (next.Throw at v) i z w = record {
    numbers = reached.numbers ++ w.numbers;
    took = took w.numbers w.took;
    at = λ choices a.
        let st = setting script choices budget in
        let p = point (Ok (next.Throw at v)) w choices a in
        let m = here (Ok (next.Throw at v)) w choices a in
        let c = came (Ok (next.Throw at v)) w choices a in
        let g = value_goes (Ok (next.Throw at v)) w choices a in
        let q = subst (λ (fs : List Frame). resume st fs g.2.variables.callers (task_does st (next.Throw at v) (moment g.0 g.2.variables s2)) ≡ valued m c) z g.2.is in
        record {
          before = g.0;
          variables = g.2.variables;
          moves = moves_then beginning p.before g.0 reached.numbers w.numbers k0 k1 k2 p.moves g.1;
          is = ap (λ (y : Outcome World Value). result_of budget (and_then y (λ v w. more v st w))) (ap back q ∙ back_valued m c) ∙ p.is;
        };
  }
  value_found (next.Follow f) i z w = record {
    numbers = reached.numbers ++ w.numbers;
    took = took w.numbers w.took;
    at = λ choices a.
        let st = setting script choices budget in
        let m = here (Ok (next.Follow f)) w choices a in
        let c = came (Ok (next.Follow f)) w choices a in
        let g = value_goes (Ok (next.Follow f)) w choices a in
        let q = subst (λ (fs : List Frame). resume st fs g.2.variables.callers (task_does st (next.Follow f) (moment g.0 g.2.variables s2)) ≡ valued m c) z g.2.is in
        absurd (true≢false (sym (valued_is m c) ∙ ap is_valued (sym q)));
  }
  value_found (next.Evaluate j) i z w = absurd (true≢false (sym i))
  value_found (next.Execute j) i z w = absurd (true≢false (sym i))
  value_found (next.Statements j) i z w = absurd (true≢false (sym i))
  value_found (next.Else j) i z w = absurd (true≢false (sym i))
  value_found (next.Through j) i z w = absurd (true≢false (sym i))
  value_found (next.Write at u x) i z w = absurd (true≢false (sym i))
  value_found (next.Pick at u n) i z w = absurd (true≢false (sym i))

-- a stage that was stopped
pub stopped_stage : {A : Type 0} (script : ScriptTree) (budget : ℕ) (t t1 : List ℕ) (k k1 : SinkState) (s : State) (stop : Stop) (r : Result A Stop) (left : A → Rest) → IsErrAnd r (λ x. x ≡ stop)
    → Stopped script budget t t1 k k1 s stop → Stage script budget t t1 k k1 s r left
stopped_stage script budget t t1 k k1 s stop (Ok a) left h x = absurd h
stopped_stage script budget t t1 k k1 s stop (Err y) left h x = subst (λ (z : Stop). Stopped script budget t t1 k k1 s z) (sym h) x

module _ (env : Env) (script : ScriptTree) (budget : ℕ) (t0 t1 t2 : List ℕ) (k0 k1 k2 : SinkState) (s s1 s2 : State) (body : Bor Body) (e : Expr) (more : Value → Rest) (first stack : List Frame) (z0 : first ≡ []) (program : IsProgram script env.functions.now)
    (h : IsValueBody script body.now e) (on : (v : Value) → PrintsOn script budget (more v)) (o : IsOutside s s1 body) (reached : Reached script budget t0 t1 k0 k1 s (value_then e more)) (r : Result held.Value Stop) where
  pub value_ok : (t : Task) → IsAnswer t → stack ≡ [] → Walks env first s1 t1 t2 k1 k2 stack s2 (Ok t) (λ st. task_does st (next.Evaluate body.now.whole)) → r ≡ value_in t
      → Stage script budget t0 t2 k0 k2 s2 r (λ v. more (value_of v))
  value_ok t i z w q =
      subst (λ (x : Result held.Value Stop). Stage script budget t0 t2 k0 k2 s2 x (λ v. more (value_of v))) (sym q)
      (value_found env script budget t0 t1 t2 k0 k1 k2 s s1 s2 body e more stack program h on o reached t i z
      (subst (λ (fs : List Frame). Walks env fs s1 t1 t2 k1 k2 stack s2 (Ok t) (λ st. task_does st (next.Evaluate body.now.whole))) z0 w))

  pub value_err : (stop : Stop) → Walks env first s1 t1 t2 k1 k2 stack s2 (Err stop) (λ st. task_does st (next.Evaluate body.now.whole)) → IsErrAnd r (λ x. x ≡ stop)
      → Stage script budget t0 t2 k0 k2 s2 r (λ v. more (value_of v))
  value_err stop w q =
      stopped_stage script budget t0 t2 k0 k2 s2 stop r (λ v. more (value_of v)) q
      (value_stops env script budget t0 t1 t2 k0 k1 k2 s s1 s2 body e more stack program h on o reached stop
      (subst (λ (fs : List Frame). Walks env fs s1 t1 t2 k1 k2 stack s2 (Err stop) (λ st. task_does st (next.Evaluate body.now.whole))) z0 w))
