-- What a run prints, and the numbers that it takes.
use Rattle.std.proofs.Common.{◌≡◌, refl, ap, sym, ◌∙◌, subst, arith, ℕ, ◌+◌, ◌<◌, ◌≤◌, List, [], ◌∷◌, ◌++◌, length, Some, None, Bool, true, false, cond}
use Rattle.std.specs.Prelude.{Result, Ok, Err, ◌%◌, ◌^◌, ◌&&◌, pos, nat_le, nat_lt}
use Rattle.std.specs.Borrow.{Bor}
use Rattle.std.specs.Result.{IsErrAnd}
use Rattle.std.proofs.lemmas.Bool.{lt-ltb, le-leb, lt-leb}
use Rattle.std.proofs.lemmas.List.{append-nil}
use Rattle.gj_base.specs.Choices.{Picks}
use Rattle.gj_base.specs.Sink.{SinkState, appended, Writes}
use Rattle.gj_base.specs.declared.sink.SinkError.{SinkError}
use Rattle.gj_base.specs.declared.sink.SinkError.TheVariants as sink_error
use Rattle.js_tree.specs.Script.{ScriptTree}
use Rattle.js_tree.specs.Value as run
use Rattle.js_tree.specs.Value.{Value, whole, bytes, World, Outcome, gives, over, and_then, tick}
use Rattle.js_tree.specs.Evaluate.{Setting, setting, Called, onward, written, choice_number}
use Rattle.js_steps.specs.declared.frames.frame.End.{End}
use Rattle.js_steps.specs.declared.frames.frame.End.TheVariants as end
use Rattle.js_steps.specs.declared.frames.frame.Flow.TheVariants as step_flow
use Rattle.js_steps.specs.declared.frames.frame.Frame.{Frame}
use Rattle.js_steps.specs.declared.frames.frame.Halt.{Halt}
use Rattle.js_steps.specs.declared.frames.frame.Task.{Task}
use Rattle.js_steps.specs.declared.frames.frame.Task.TheVariants as next
use Rattle.js_steps.specs.declared.frames.frame.Use.{Use}
use Rattle.js_steps.specs.declared.frames.frame.Use.TheVariants.{Needed, Dropped}
use Rattle.js_steps.specs.declared.frames.state.Env.{Env}
use Rattle.js_steps.specs.declared.frames.state.State.{State}
use Rattle.js_steps.specs.Moment.{Moment, Out, flow, in_world, called_here}
use Rattle.js_steps.specs.Stack.{end_of, resume, task_does}
use Rattle.js_steps.specs.Stands.{Before, Variables, Stands, Ticked, moment, world_of}
use Rattle.js_steps.specs.StackLaws.{resume_over}
use Rattle.js_steps.specs.StepLaws.{goes}
use Rattle.js_steps.specs.TickLaws.{stands_ticked, moment_ticked, tick_is, tick_is_none}
use Rattle.js_run.specs.declared.walks.stop.Stop.{Stop}
use Rattle.js_run.specs.declared.walks.stop.Stop.TheVariants.{Over}
use Rattle.js_run.specs.Stops.{stop_of, sink_stop}
use Rattle.js_run.specs.Walks.{Moves, Goes, Walks}
use Rattle.js_run.specs.WalkLaws.{appended_none, moves_none}

-- a run that is over at a point that has printed and taken so much
over_goes : (script : ScriptTree) (choices : List ℕ) (fuel : ℕ) (b b1 : Before) (vs : Variables) (numbers : List ℕ) (k k1 : SinkState) (stack : List Frame) (s1 : State) (e : End) (o : Out) → Moves b b1 numbers k k1
    → o ≡ over (end_of e) (world_of b1 vs s1) → Goes script choices fuel b (resume (setting script choices fuel) stack vs.callers o) numbers k k1 stack s1 (Err (Over e))
over_goes script choices fuel b b1 vs numbers k k1 stack s1 e o m h =
    (b1, m, (vs, sym (ap (resume (setting script choices fuel) stack vs.callers) h ∙ resume_over (setting script choices fuel) stack vs.callers (end_of e) (world_of b1 vs s1))))

-- a task after a tick at such a point
task_goes : (script : ScriptTree) (choices : List ℕ) (fuel : ℕ) (b b1 : Before) (vs : Variables) (numbers : List ℕ) (k k1 : SinkState) (stack : List Frame) (s1 : State) (t : Task) (o : Out) → Moves b b1 numbers k k1
    → Stands script fuel vs stack s1 → o ≡ task_does (setting script choices fuel) t (moment b1 vs s1)
    → Goes script choices fuel b (resume (setting script choices fuel) stack vs.callers o) numbers k k1 stack s1 (Ok t)
task_goes script choices fuel b b1 vs numbers k k1 stack s1 t o m h e =
    (b1, m, record { variables = vs; stands = h; is = ap (resume (setting script choices fuel) stack vs.callers) (sym e) })

-- with a text more that was printed, and with one number more that was taken
abbrev printed_on : Before → List ℕ → Before
printed_on b text = record b { printed = b.printed ++ text }

abbrev taken_on : Before → Before
taken_on b = record b { taken = b.taken + 1 }

pub prints_moves : (b : Before) (text : List ℕ) (k k1 : SinkState) → k1 ≡ appended k text → Moves b (printed_on b text) [] k k1
prints_moves b text k k1 e = let z : b.taken ≡ b.taken + 0 = omega arith in record { count = z; piece = text; printed = refl; written = e }

pub takes_moves : (b : Before) (raw : ℕ) (k : SinkState) → Moves b (taken_on b) (raw ∷ []) k k
takes_moves b raw k = record { count = refl; piece = []; printed = sym (append-nil b.printed); written = appended_none k }

-- what is left of a call after the tick of `$write`
abbrev after_tick : ℕ → Use → Moment → List ℕ → Outcome World (Unit {0}) → Out
after_tick at u m text o = called_here at u m (and_then o (λ _ w. let c : Called = gives None (record w { printed = w.printed ++ text }) in c))

module _ (env : Env) (stack : List Frame) (s s1 : State) (taken : List ℕ) (at : ℕ) (text : Bor (List ℕ)) where
  -- the text was printed
  pub dropped_write : (u : Use) (k k1 : SinkState) → u ≡ Dropped → Ticked s s1 (Ok tt) → k1 ≡ appended k text.now
      → Walks env stack s taken taken k k1 stack s1 (Ok (next.Follow step_flow.Onward)) (λ st. task_does st (next.Write at u text))
  dropped_write u k k1 e t w = record {
    numbers = [];
    took = sym (append-nil taken);
    goes = λ script choices fuel b vs program h a.
        let st = setting script choices fuel in
        let m : Moment = moment b vs s in
        let b1 : Before = printed_on b text.now in
        task_goes script choices fuel b b1 vs [] k k1 stack s1 (next.Follow step_flow.Onward) (task_does st (next.Write at u text) m) (prints_moves b text.now k k1 w) (stands_ticked script fuel vs stack s s1 t h)
        (ap (λ (x : Use). called_here at x m (written at (bytes text.now ∷ []) m.world)) e
        ∙ ap (after_tick at Dropped m text.now) (tick_is b vs s s1 t)
        ∙ ap (λ (n : Moment). let o : Out = gives (flow onward) n in o) (sym (moment_ticked b1 vs s s1 t)));
  }

  -- a value is needed, and `$write` gives none
  pub needed_write : (u : Use) (k k1 : SinkState) → u ≡ Needed → Ticked s s1 (Ok tt) → k1 ≡ appended k text.now
      → Walks env stack s taken taken k k1 stack s1 (Err (Over (end.Stuck at))) (λ st. task_does st (next.Write at u text))
  needed_write u k k1 e t w = record {
    numbers = [];
    took = sym (append-nil taken);
    goes = λ script choices fuel b vs program h a.
        let st = setting script choices fuel in
        let m : Moment = moment b vs s in
        let b1 : Before = printed_on b text.now in
        over_goes script choices fuel b b1 vs [] k k1 stack s1 (end.Stuck at) (task_does st (next.Write at u text) m) (prints_moves b text.now k k1 w)
        (ap (λ (x : Use). called_here at x m (written at (bytes text.now ∷ []) m.world)) e
        ∙ ap (after_tick at Needed m text.now) (tick_is b vs s s1 t));
  }

  -- no tick is left for it
  pub no_write : (u : Use) (k : SinkState) (x : Halt) (r : Result Task Stop) → Ticked s s1 (Err x) → IsErrAnd r (λ y. y ≡ stop_of x)
      → Walks env stack s taken taken k k stack s1 r (λ st. task_does st (next.Write at u text))
  no_write u k x (Ok y) t is = absurd is
  no_write u k x (Err y) t is = record {
    numbers = [];
    took = sym (append-nil taken);
    goes = λ script choices fuel b vs program h a.
        let st = setting script choices fuel in
        let m : Moment = moment b vs s in
        let out : Out = task_does st (next.Write at u text) m in
        let why : y ≡ Over end.Going = is ∙ ap stop_of t.2 in
        subst (λ (z : Stop). Goes script choices fuel b (resume st stack vs.callers out) [] k k stack s1 (Err z)) (sym why)
        (subst (λ (z : State). Goes script choices fuel b (resume st stack vs.callers out) [] k k stack z (Err (Over end.Going))) (sym t.1)
        (over_goes script choices fuel b b vs [] k k stack s end.Going out (moves_none b k) (ap (after_tick at u m text.now) (tick_is_none b vs s t.0))));
  }

  -- the sink refuses
  pub refused_write : (u : Use) (k k1 : SinkState) (x : SinkError) (r : Result Task Stop) → Ticked s s1 (Ok tt) → Writes (Err x) text.now k k1 → IsErrAnd r (λ y. y ≡ sink_stop x)
      → Walks env stack s taken taken k k1 stack s1 r (λ st. task_does st (next.Write at u text))
  refused_write u k k1 x (Ok y) ticked w is = absurd is
  refused_write u k k1 sink_error.Failed (Err y) ticked w is = record {
    numbers = [];
    took = sym (append-nil taken);
    goes = λ script choices fuel b vs program h a.
        let st = setting script choices fuel in
        let t : Task = next.Write at u text in
        subst (λ (z : Stop). Goes script choices fuel b (resume st stack vs.callers (task_does st t (moment b vs s))) [] k k1 stack s1 (Err z)) (sym is)
        (k, (at, u, text, record { before = b; moves = moves_none b k; stack = stack; state = s; leads = goes script choices fuel b vs stack s t h }, omega (arith, ticked.0), w));
  }
  refused_write u k k1 sink_error.NoMemory (Err y) ticked w is = record {
    numbers = [];
    took = sym (append-nil taken);
    goes = λ script choices fuel b vs program h a.
        let st = setting script choices fuel in
        let t : Task = next.Write at u text in
        subst (λ (z : Stop). Goes script choices fuel b (resume st stack vs.callers (task_does st t (moment b vs s))) [] k k1 stack s1 (Err z)) (sym is)
        (k, (t, record { before = b; moves = moves_none b k; stack = stack; state = s; leads = goes script choices fuel b vs stack s t h }, record { bytes = w.kept; faults = w.same }));
  }

-- what a call comes to is the same in any world of its moment
called_in : (m : Moment) (at : ℕ) (u : Use) (w : World) (c : Called) → called_here at u (in_world m w) c ≡ called_here at u m c
called_in m at Needed w (gives None x) = refl
called_in m at Needed w (gives (Some v) x) = refl
called_in m at Dropped w (gives o x) = refl
called_in m at Needed w (run.throws j v x) = refl
called_in m at Dropped w (run.throws j v x) = refl
called_in m at Needed w (over e x) = refl
called_in m at Dropped w (over e x) = refl

-- what is left of a call by the test of `$pick` and after its tick
abbrev by_test : ℕ → Use → Moment → List ℕ → ℕ → Bool → Outcome World (Unit {0}) → Out
by_test at u m cs k t o =
    let stuck : Called = over (run.Stuck at) m.world in
    called_here at u m (cond t (and_then o (λ _ w. let c : Called = gives (Some (whole (pos (choice_number cs w.taken % k)))) (record w { taken = w.taken + 1 }) in c)) stuck)

enough : (k : ℕ) → 2 ≤ k → k < 2 ^ 32 → (nat_le 2 k && nat_lt k (2 ^ 32)) ≡ true
enough k l h = ap (λ (b : Bool). b && nat_lt k (2 ^ 32)) (le-leb 2 k l) ∙ lt-ltb k (2 ^ 32) h

too_few : (k : ℕ) → k < 2 → (nat_le 2 k && nat_lt k (2 ^ 32)) ≡ false
too_few k l = ap (λ (b : Bool). b && nat_lt k (2 ^ 32)) (lt-leb 2 k l)

module _ (env : Env) (stack : List Frame) (s s1 : State) (k : SinkState) (at : ℕ) (u : Use) (n : ℕ) where
  -- a number was taken
  pub picks : (taken taken1 : List ℕ) (answer : ℕ) (t : Task) → Ticked s s1 (Ok tt) → 2 ≤ n → n < 2 ^ 32 → Picks answer n taken taken1
      → ((j : ℕ) (st : Setting) (m : Moment) → task_does st t m ≡ called_here j u m (gives (Some (whole (pos answer))) m.world))
      → Walks env stack s taken taken1 k k stack s1 (Ok t) (λ st. task_does st (next.Pick at u n))
  picks taken taken1 answer t ticked least most p does = record {
    numbers = p.raw ∷ [];
    took = p.taken;
    goes = λ script choices fuel b vs program h a.
        let st = setting script choices fuel in
        let m : Moment = moment b vs s in
        let b1 : Before = taken_on b in
        let w1 : World = world_of b1 vs s1 in
        let first : 0 < length (p.raw ∷ []) = omega arith in
        let zero : b.taken + 0 ≡ b.taken = omega arith in
        let raw : choice_number choices b.taken ≡ p.raw = ap (choice_number choices) (sym zero) ∙ a 0 first in
        let same : choice_number choices b.taken % n ≡ answer = ap (λ (x : ℕ). x % n) raw ∙ sym p.answer_is in
        let c : Called = gives (Some (whole (pos answer))) w1 in
        task_goes script choices fuel b b1 vs (p.raw ∷ []) k k stack s1 t (task_does st (next.Pick at u n) m) (takes_moves b p.raw k) (stands_ticked script fuel vs stack s s1 ticked h)
        (ap (λ (x : Bool). by_test at u m choices n x (tick m.world)) (enough n least most)
        ∙ ap (by_test at u m choices n true) (tick_is b vs s s1 ticked)
        ∙ ap (λ (x : ℕ). let d : Called = gives (Some (whole (pos x))) w1 in called_here at u m d) same
        ∙ sym (called_in m at u w1 c)
        ∙ ap (λ (x : Moment). called_here at u x c) (sym (moment_ticked b1 vs s s1 ticked))
        ∙ sym (does at st (moment b1 vs s1)));
  }

  -- no tick is left for it
  pub no_pick : (taken : List ℕ) (x : Halt) (r : Result Task Stop) → Ticked s s1 (Err x) → 2 ≤ n → n < 2 ^ 32 → IsErrAnd r (λ y. y ≡ stop_of x)
      → Walks env stack s taken taken k k stack s1 r (λ st. task_does st (next.Pick at u n))
  no_pick taken x (Ok y) t least most is = absurd is
  no_pick taken x (Err y) t least most is = record {
    numbers = [];
    took = sym (append-nil taken);
    goes = λ script choices fuel b vs program h a.
        let st = setting script choices fuel in
        let m : Moment = moment b vs s in
        let out : Out = task_does st (next.Pick at u n) m in
        let why : y ≡ Over end.Going = is ∙ ap stop_of t.2 in
        subst (λ (z : Stop). Goes script choices fuel b (resume st stack vs.callers out) [] k k stack s1 (Err z)) (sym why)
        (subst (λ (z : State). Goes script choices fuel b (resume st stack vs.callers out) [] k k stack z (Err (Over end.Going))) (sym t.1)
        (over_goes script choices fuel b b vs [] k k stack s end.Going out (moves_none b k)
        (ap (λ (x : Bool). by_test at u m choices n x (tick m.world)) (enough n least most) ∙ ap (by_test at u m choices n true) (tick_is_none b vs s t.0))));
  }

  -- fewer than two
  pub few_pick : (taken : List ℕ) → n < 2 → Walks env stack s taken taken k k stack s (Err (Over (end.Stuck at))) (λ st. task_does st (next.Pick at u n))
  few_pick taken l = record {
    numbers = [];
    took = sym (append-nil taken);
    goes = λ script choices fuel b vs program h a.
        let st = setting script choices fuel in
        let m : Moment = moment b vs s in
        over_goes script choices fuel b b vs [] k k stack s (end.Stuck at) (task_does st (next.Pick at u n) m) (moves_none b k)
        (ap (λ (x : Bool). by_test at u m choices n x (tick m.world)) (too_few n l));
  }
