-- The call of the start function.
use Rattle.std.proofs.Common.{◌≡◌, refl, ap, sym, ◌∙◌, subst, ℕ, List, [], ◌++◌, append_assoc, None, true≢false}
use Rattle.std.specs.Prelude.{Result, Ok, Err}
use Rattle.std.specs.Result.{IsErrAnd}
use Rattle.std.proofs.lemmas.List.{append-nil}
use Rattle.gj_base.specs.Counts.{Begins}
use Rattle.gj_base.specs.Sink.{SinkState, appended}
use Rattle.js_tree.specs.Script.{ScriptTree}
use Rattle.js_tree.specs.Value.{Value, gives, throws, over}
use Rattle.js_tree.specs.Evaluate.{Setting, Called, setting, call_value}
use Rattle.js_tree.specs.ScriptRun as whole
use Rattle.js_tree.specs.ScriptRun.{ScriptResult, script_run, result_of}
use Rattle.js_value.specs.HeapSeen.{values_of}
use Rattle.js_value.specs.declared.heap.value.Value as held
use Rattle.js_steps.specs.Bodies.{IsProgram}
use Rattle.js_steps.specs.declared.frames.frame.Frame.{Frame}
use Rattle.js_steps.specs.declared.frames.frame.Halt.{Halt}
use Rattle.js_steps.specs.declared.frames.frame.Halt.TheVariants as halt
use Rattle.js_steps.specs.declared.frames.frame.Task.{Task}
use Rattle.js_steps.specs.declared.frames.frame.Task.TheVariants as next
use Rattle.js_steps.specs.declared.frames.frame.Use.TheVariants.{Dropped}
use Rattle.js_steps.specs.declared.frames.state.Env.{Env}
use Rattle.js_steps.specs.declared.frames.state.State.{State}
use Rattle.js_steps.specs.Moment.{Moment, Out, called_here}
use Rattle.js_steps.specs.Stack.{end_of, resume, task_does}
use Rattle.js_steps.specs.Stands.{Stands, StepsIn, moment, world_of}
use Rattle.js_run.specs.declared.walks.stop.Stop.{Stop}
use Rattle.js_run.specs.Stays.{world_at}
use Rattle.js_run.specs.Stops.{stop_of}
use Rattle.js_run.specs.Walks.{Goes, Walks}
use Rattle.js_run.specs.WalkLaws.{moves_none, moves_then, walks_then}
use Rattle.js_run.specs.Ends.{IsAnswer}
use Rattle.js_run.specs.Runs.{BeginsWith}
use Rattle.js_run.specs.Points.{Point, Reached, Stopped, Stage, beginning, call_left, nothing_left, return_in}
use Rattle.js_run.proofs.Halts.{ComesTo, begins_same, begins_first, agrees_rest, stops}
use Rattle.js_run.proofs.Globals.{call_prints}
use Rattle.js_run.proofs.Values.{stopped_stage}

-- what a call came to, from what its part came to
abbrev back : Out → Called
back (gives a m) = gives None m.world
back (throws at v m) = throws at v m.world
back (over e w) = over e w

back_called : (n at : ℕ) (m : Moment) (c : Called) → result_of n (back (called_here at Dropped m c)) ≡ result_of n c
back_called n at m (gives o w) = refl
back_called n at m (throws j v w) = refl
back_called n at m (over e w) = refl

called_printed : (at : ℕ) (m : Moment) (c : Called) → Begins (world_at (called_here at Dropped m c)).printed (whole.world_of c).printed
called_printed at m (gives o w) = begins_same w.printed
called_printed at m (throws j v w) = begins_same w.printed
called_printed at m (over e w) = begins_same w.printed

call_comes : (script : ScriptTree) (choices : List ℕ) (budget at : ℕ) (m : Moment) (c : Called) → result_of budget c ≡ script_run script choices budget
    → ComesTo script choices budget (called_here at Dropped m c)
call_comes script choices budget at m c e = record {
  overs = λ x w q. ap (λ (y : Out). result_of budget (back y)) q ∙ back_called budget at m c ∙ e;
  later = subst (λ (r : ScriptResult). Begins (world_at (called_here at Dropped m c)).printed r.printed) e (called_printed at m c);
}

-- the part of the call
abbrev pub part : ℕ → Value → Setting → Moment → Out
part at v st m = called_here at Dropped m (call_value st at v [] m.world)

module _ (env : Env) (script : ScriptTree) (budget : ℕ) (t0 t1 t2 : List ℕ) (k0 k1 k2 : SinkState) (s s2 : State) (at : ℕ) (v : Value) (stack : List Frame) (program : IsProgram script env.functions.now)
    (reached : Reached script budget t0 t1 k0 k1 s (call_left at v)) where
  module _ (r : Result Task Stop) (w : Walks env [] s t1 t2 k1 k2 stack s2 r (part at v)) (choices : List ℕ) (a : BeginsWith (reached.numbers ++ w.numbers) choices) where
    abbrev point : Point script choices budget reached.numbers k0 k1 s (call_left at v)
    point = reached.at choices (begins_first choices reached.numbers w.numbers a)

    abbrev here : Moment
    here = moment point.before point.variables s

    abbrev came : Called
    came = call_value (setting script choices budget) at v [] (world_of point.before point.variables s)

    call_goes : Goes script choices budget point.before (called_here at Dropped here came) w.numbers k1 k2 stack s2 r
    call_goes = w.goes script choices budget point.before point.variables program point.stands (agrees_rest choices reached.numbers w.numbers point.before.taken point.moves.count a)

    call_all : ComesTo script choices budget (called_here at Dropped here came)
    call_all = call_comes script choices budget at here came point.is

  took : (ms : List ℕ) → t2 ≡ t1 ++ ms → t2 ≡ t0 ++ (reached.numbers ++ ms)
  took ms e = e ∙ ap (λ (ns : List ℕ). ns ++ ms) reached.took ∙ append_assoc t0 reached.numbers ms

  call_stopped : (stop : Stop) → Walks env [] s t1 t2 k1 k2 stack s2 (Err stop) (part at v) → Stopped script budget t0 t2 k0 k2 s2 stop
  call_stopped stop w = record {
    numbers = reached.numbers ++ w.numbers;
    took = took w.numbers w.took;
    at = λ choices a.
        let p = point (Err stop) w choices a in
        stops script choices budget stop p.before (called_here at Dropped (here (Err stop) w choices a) (came (Err stop) w choices a)) reached.numbers w.numbers k0 k1 k2 stack s2 (call_all (Err stop) w choices a) p.moves
        (call_goes (Err stop) w choices a);
  }

  -- the call returned
  returns_so : (t : Task) → ((st : Setting) (m : Moment) → back (task_does st t m) ≡ gives None m.world) → stack ≡ [] → Walks env [] s t1 t2 k1 k2 stack s2 (Ok t) (part at v)
      → Reached script budget t0 t2 k0 k2 s2 nothing_left
  returns_so t does z w = record {
    numbers = reached.numbers ++ w.numbers;
    took = took w.numbers w.took;
    at = λ choices a.
        let st = setting script choices budget in
        let p = point (Ok t) w choices a in
        let m = here (Ok t) w choices a in
        let c = came (Ok t) w choices a in
        let g = call_goes (Ok t) w choices a in
        let q = subst (λ (fs : List Frame). resume st fs g.2.variables.callers (task_does st t (moment g.0 g.2.variables s2)) ≡ called_here at Dropped m c) z g.2.is in
        record {
          before = g.0;
          variables = g.2.variables;
          moves = moves_then beginning p.before g.0 reached.numbers w.numbers k0 k1 k2 p.moves g.1;
          stands = subst (λ (fs : List Frame). Stands script budget g.2.variables fs s2) z g.2.stands;
          is = ap (result_of budget) (sym (does st (moment g.0 g.2.variables s2))) ∙ ap (λ (y : Out). result_of budget (back y)) q ∙ back_called budget at m c ∙ p.is;
        };
  }

  call_found : (t : Task) → IsAnswer t → stack ≡ [] → Walks env [] s t1 t2 k1 k2 stack s2 (Ok t) (part at v) → Stage script budget t0 t2 k0 k2 s2 (return_in t) (λ _. nothing_left)
  call_found (next.Give u) i z w = returns_so (next.Give u) (λ st m. refl) z w
  call_found (next.Follow f) i z w = returns_so (next.Follow f) (λ st m. refl) z w
  call_found (next.Throw j u) i z w = record {
    numbers = reached.numbers ++ w.numbers;
    took = took w.numbers w.took;
    at = λ choices a.
        let st = setting script choices budget in
        let p = point (Ok (next.Throw j u)) w choices a in
        let m = here (Ok (next.Throw j u)) w choices a in
        let c = came (Ok (next.Throw j u)) w choices a in
        let g = call_goes (Ok (next.Throw j u)) w choices a in
        let q = subst (λ (fs : List Frame). resume st fs g.2.variables.callers (task_does st (next.Throw j u) (moment g.0 g.2.variables s2)) ≡ called_here at Dropped m c) z g.2.is in
        record {
          before = g.0;
          variables = g.2.variables;
          moves = moves_then beginning p.before g.0 reached.numbers w.numbers k0 k1 k2 p.moves g.1;
          is = ap (λ (y : Out). result_of budget (back y)) q ∙ back_called budget at m c ∙ p.is;
        };
  }
  call_found (next.Evaluate j) i z w = absurd (true≢false (sym i))
  call_found (next.Execute j) i z w = absurd (true≢false (sym i))
  call_found (next.Statements j) i z w = absurd (true≢false (sym i))
  call_found (next.Else j) i z w = absurd (true≢false (sym i))
  call_found (next.Through j) i z w = absurd (true≢false (sym i))
  call_found (next.Write j u x) i z w = absurd (true≢false (sym i))
  call_found (next.Pick j u n) i z w = absurd (true≢false (sym i))

-- the call of a value began
begun : (env : Env) (s s1 : State) (taken : List ℕ) (sink : SinkState) (at : ℕ) (v : Value) (stack : List Frame) (t : Task) → StepsIn env [] s stack s1 (Ok t) (part at v)
    → Walks env [] s taken taken sink sink stack s1 (Ok t) (part at v)
begun env s s1 taken sink at v stack t steps = record {
  numbers = [];
  took = sym (append-nil taken);
  goes = λ script choices fuel b vs program h a. (b, moves_none b sink, steps script choices fuel b vs program h);
}

module _ (env : Env) (script : ScriptTree) (budget : ℕ) (t0 t1 t2 : List ℕ) (k0 k1 k2 : SinkState) (s s1 s2 : State) (at : ℕ) (v : Value) (mid stack : List Frame) (t : Task) (program : IsProgram script env.functions.now)
    (reached : Reached script budget t0 t1 k0 k1 s (call_left at v)) (steps : StepsIn env [] s mid s1 (Ok t) (part at v)) where
  walked : (r : Result Task Stop) → Walks env mid s1 t1 t2 k1 k2 stack s2 r (λ st. task_does st t) → Walks env [] s t1 t2 k1 k2 stack s2 r (part at v)
  walked r w = walks_then env [] mid stack s s1 s2 t1 t1 t2 k1 k1 k2 t r (part at v) (begun env s s1 t1 k1 at v mid t steps) w

  start_stops : (stop : Stop) → Walks env mid s1 t1 t2 k1 k2 stack s2 (Err stop) (λ st. task_does st t) → Stopped script budget t0 t2 k0 k2 s2 stop
  start_stops stop w = call_stopped env script budget t0 t1 t2 k0 k1 k2 s s2 at v stack program reached stop (walked (Err stop) w)

  start_found : (done : Task) → IsAnswer done → stack ≡ [] → Walks env mid s1 t1 t2 k1 k2 stack s2 (Ok done) (λ st. task_does st t)
      → Stage script budget t0 t2 k0 k2 s2 (return_in done) (λ _. nothing_left)
  start_found done i z w = call_found env script budget t0 t1 t2 k0 k1 k2 s s2 at v stack program reached done i z (walked (Ok done) w)

-- the call of a value did not begin
start_halts : (env : Env) (script : ScriptTree) (budget : ℕ) (t0 t1 : List ℕ) (k0 k1 : SinkState) (s s1 : State) (at : ℕ) (v : Value) (mid : List Frame) (x : Halt) → IsProgram script env.functions.now
    → Reached script budget t0 t1 k0 k1 s (call_left at v) → StepsIn env [] s mid s1 (Err x) (part at v) → Stopped script budget t0 t1 k0 k1 s1 (stop_of x)
start_halts env script budget t0 t1 k0 k1 s s1 at v mid (halt.Over e) program r steps = record {
  numbers = r.numbers;
  took = r.took;
  at = λ choices a.
      let st = setting script choices budget in
      let p = r.at choices a in
      let k = steps script choices budget p.before p.variables program p.stands in
      record {
        before = p.before;
        variables = k.0;
        moves = p.moves;
        is =
            (call_comes script choices budget at (moment p.before p.variables s) (call_value st at v [] (world_of p.before p.variables s)) p.is).overs (end_of e) (world_of p.before k.0 s1) k.1;
      };
}
start_halts env script budget t0 t1 k0 k1 s s1 at v mid halt.NoMemory program r steps = record {
  numbers = r.numbers;
  took = r.took;
  at = λ choices a.
      let p = r.at choices a in
      let w = world_of p.before p.variables s in
      let sink : k1 ≡ appended k0 p.before.printed = p.moves.written ∙ ap (appended k0) (sym p.moves.printed) in
      record {
        part = p.before.printed;
        begins = subst (λ (y : ScriptResult). Begins p.before.printed y.printed) p.is (call_prints script budget at v choices w);
        bytes = ap (λ (k : SinkState). k.bytes) sink;
        faults = ap (λ (k : SinkState). k.faults) sink;
      };
}

-- the part of a call with no values yet, on an empty stack
no_values : (env : Env) (s s1 : State) (at : ℕ) (v : Value) (first mid : List Frame) (values : List held.Value) (r : Result Task Halt) → first ≡ [] → values ≡ []
    → StepsIn env first s mid s1 r (λ st m. called_here at Dropped m (call_value st at v (values_of values) m.world)) → StepsIn env [] s mid s1 r (part at v)
no_values env s s1 at v first mid values r z0 zv steps =
    subst (λ (fs : List Frame). StepsIn env fs s mid s1 r (part at v)) z0
    (subst (λ (vs : List held.Value). StepsIn env first s mid s1 r (λ st m. called_here at Dropped m (call_value st at v (values_of vs) m.world))) zv steps)

module _ (env : Env) (script : ScriptTree) (budget : ℕ) (t0 t1 t2 : List ℕ) (k0 k1 k2 : SinkState) (s s1 s2 : State) (at : ℕ) (v : Value) (first mid stack : List Frame) (values : List held.Value) (z0 : first ≡ []) (zv : values ≡ [])
    (program : IsProgram script env.functions.now) (reached : Reached script budget t0 t1 k0 k1 s (call_left at v)) (r : Result (Unit {0}) Stop) where
  pub start_ok : (t done : Task) → StepsIn env first s mid s1 (Ok t) (λ st m. called_here at Dropped m (call_value st at v (values_of values) m.world)) → IsAnswer done → stack ≡ []
      → Walks env mid s1 t1 t2 k1 k2 stack s2 (Ok done) (λ st. task_does st t) → r ≡ return_in done → Stage script budget t0 t2 k0 k2 s2 r (λ _. nothing_left)
  start_ok t done steps i z w q =
      subst (λ (x : Result (Unit {0}) Stop). Stage script budget t0 t2 k0 k2 s2 x (λ _. nothing_left)) (sym q)
      (start_found env script budget t0 t1 t2 k0 k1 k2 s s1 s2 at v mid stack t program reached (no_values env s s1 at v first mid values (Ok t) z0 zv steps) done i z w)

  pub start_err : (t : Task) (stop : Stop) → StepsIn env first s mid s1 (Ok t) (λ st m. called_here at Dropped m (call_value st at v (values_of values) m.world))
      → Walks env mid s1 t1 t2 k1 k2 stack s2 (Err stop) (λ st. task_does st t) → IsErrAnd r (λ x. x ≡ stop) → Stage script budget t0 t2 k0 k2 s2 r (λ _. nothing_left)
  start_err t stop steps w q =
      stopped_stage script budget t0 t2 k0 k2 s2 stop r (λ _. nothing_left) q
      (start_stops env script budget t0 t1 t2 k0 k1 k2 s s1 s2 at v mid stack t program reached (no_values env s s1 at v first mid values (Ok t) z0 zv steps) stop w)

pub start_none : (env : Env) (script : ScriptTree) (budget : ℕ) (t0 t1 : List ℕ) (k0 k1 : SinkState) (s s1 : State) (at : ℕ) (v : Value) (first mid : List Frame) (values : List held.Value) → first ≡ [] → values ≡ [] → IsProgram script env.functions.now
    → Reached script budget t0 t1 k0 k1 s (call_left at v) → (r : Result (Unit {0}) Stop) (x : Halt) → StepsIn env first s mid s1 (Err x) (λ st m. called_here at Dropped m (call_value st at v (values_of values) m.world)) → IsErrAnd r (λ y. y ≡ stop_of x)
    → Stage script budget t0 t1 k0 k1 s1 r (λ _. nothing_left)
start_none env script budget t0 t1 k0 k1 s s1 at v first mid values z0 zv program reached r x steps q =
    stopped_stage script budget t0 t1 k0 k1 s1 (stop_of x) r (λ _. nothing_left) q
    (start_halts env script budget t0 t1 k0 k1 s s1 at v mid x program reached (no_values env s s1 at v first mid values (Err x) z0 zv steps))
