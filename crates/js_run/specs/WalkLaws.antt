-- Steps one after the other, and a step that reaches nothing outside.
use Rattle.std.proofs.Common.{◌≡◌, refl, ap, sym, ◌∙◌, subst, arith, ℕ, ◌+◌, ◌<◌, List, [], ◌++◌, append_assoc, length, Option, Some, None, option_map}
use Rattle.std.specs.Prelude.{Result, Ok, Err}
use Rattle.std.proofs.lemmas.List.{append-nil, length-append, get_or_append_left, get_or-append-add}
use Rattle.gj_base.specs.Sink.{SinkState, appended}
use Rattle.js_tree.specs.Script.{ScriptTree}
use Rattle.js_tree.specs.Evaluate.{Setting, setting, choice_number}
use Rattle.js_steps.specs.declared.frames.frame.Frame.{Frame}
use Rattle.js_steps.specs.declared.frames.frame.Halt.{Halt}
use Rattle.js_steps.specs.declared.frames.frame.Halt.TheVariants as halt
use Rattle.js_steps.specs.declared.frames.frame.Task.{Task}
use Rattle.js_steps.specs.declared.frames.state.Env.{Env}
use Rattle.js_steps.specs.declared.frames.state.State.{State}
use Rattle.js_steps.specs.Moment.{Moment, Out}
use Rattle.js_steps.specs.Stack.{resume, task_does}
use Rattle.js_steps.specs.Stands.{Before, Variables, Stands, Keeps, StepsIn, moment}
use Rattle.js_steps.specs.StepLaws.{goes}
use Rattle.js_run.specs.declared.walks.stop.Stop.{Stop}
use Rattle.js_run.specs.declared.walks.stop.Stop.TheVariants.{WriteFault, NoMemory, Over}
use Rattle.js_run.specs.Stops.{next_of}
use Rattle.js_run.specs.Walks.{Agrees, Moves, Reaches, Goes, Walks}

-- a sink with pieces in a row
bytes_none : (o : Option (List ℕ)) → o ≡ option_map (λ (bytes : List ℕ). bytes ++ []) o
bytes_none None = refl
bytes_none (Some bs) = ap Some (sym (append-nil bs))

bytes_both : (o : Option (List ℕ)) (p q : List ℕ) → option_map (λ (bytes : List ℕ). bytes ++ q) (option_map (λ (bytes : List ℕ). bytes ++ p) o) ≡ option_map (λ (bytes : List ℕ). bytes ++ (p ++ q)) o
bytes_both None p q = refl
bytes_both (Some bs) p q = ap Some (append_assoc bs p q)

abbrev with_bytes : SinkState → Option (List ℕ) → SinkState
with_bytes sink o = record sink { bytes = o }

pub appended_none : (sink : SinkState) → sink ≡ appended sink []
appended_none sink = ap (with_bytes sink) (bytes_none sink.bytes)

appended_both : (sink : SinkState) (p q : List ℕ) → appended (appended sink p) q ≡ appended sink (p ++ q)
appended_both sink p q = ap (with_bytes sink) (bytes_both sink.bytes p q)

-- nothing was printed, and no number was taken
pub moves_none : (b : Before) (sink : SinkState) → Moves b b [] sink sink
moves_none b sink =
    let e : b.taken ≡ b.taken + 0 = omega arith in
    record { count = e; piece = []; printed = sym (append-nil b.printed); written = appended_none sink }

pub moves_then : (b b1 b2 : Before) (ns ms : List ℕ) (k k1 k2 : SinkState) → Moves b b1 ns k k1 → Moves b1 b2 ms k1 k2 → Moves b b2 (ns ++ ms) k k2
moves_then b b1 b2 ns ms k k1 k2 h g =
    let e : b1.taken ≡ b.taken + length ns = h.count in
    let f : b2.taken ≡ b1.taken + length ms = g.count in
    let l : length (ns ++ ms) ≡ length ns + length ms = length-append ns ms in
    let n : b2.taken ≡ b.taken + length (ns ++ ms) = omega (arith, e, f, l) in
    record {
      count = n;
      piece = h.piece ++ g.piece;
      printed = g.printed ∙ ap (λ (bs : List ℕ). bs ++ g.piece) h.printed ∙ append_assoc b.printed h.piece g.piece;
      written = g.written ∙ ap (λ (x : SinkState). appended x g.piece) h.written ∙ appended_both k h.piece g.piece;
    }

-- the numbers of two parts of the way
pub agrees_first : (choices : List ℕ) (place : ℕ) (ns ms : List ℕ) → Agrees choices place (ns ++ ms) → Agrees choices place ns
agrees_first choices place ns ms a = λ i l.
    let n : length (ns ++ ms) ≡ length ns + length ms = length-append ns ms in
    let k : i < length (ns ++ ms) = omega (arith, l, n) in
    a i k ∙ get_or_append_left ns ms 0 i l

pub agrees_second : (choices : List ℕ) (place next : ℕ) (ns ms : List ℕ) → next ≡ place + length ns → Agrees choices place (ns ++ ms) → Agrees choices next ms
agrees_second choices place next ns ms e a = λ i l.
    let n : length (ns ++ ms) ≡ length ns + length ms = length-append ns ms in
    let k : length ns + i < length (ns ++ ms) = omega (arith, l, n) in
    let q : next + i ≡ place + (length ns + i) = omega (arith, e) in
    ap (choice_number choices) q ∙ a (length ns + i) k ∙ get_or-append-add ns ms i 0

abbrev reaches_then : (script : ScriptTree) (choices : List ℕ) (fuel : ℕ) (b b1 : Before) (all : Out) (ns ms : List ℕ) (k k1 k2 : SinkState) (t : Task) → Moves b b1 ns k k1
    → Reaches script choices fuel b1 all ms k1 k2 t → Reaches script choices fuel b all (ns ++ ms) k k2 t
reaches_then script choices fuel b b1 all ns ms k k1 k2 t h r =
    record { before = r.before; moves = moves_then b b1 r.before ns ms k k1 k2 h r.moves; stack = r.stack; state = r.state; leads = r.leads }

-- what goes on after a part of the way
goes_then : (script : ScriptTree) (choices : List ℕ) (fuel : ℕ) (b b1 : Before) (all : Out) (ns ms : List ℕ) (k k1 k2 : SinkState) (stack : List Frame) (s : State) (r : Result Task Stop) → Moves b b1 ns k k1
    → Goes script choices fuel b1 all ms k1 k2 stack s r → Goes script choices fuel b all (ns ++ ms) k k2 stack s r
goes_then script choices fuel b b1 all ns ms k k1 k2 stack s (Ok t) h g = (g.0, moves_then b b1 g.0 ns ms k k1 k2 h g.1, g.2)
goes_then script choices fuel b b1 all ns ms k k1 k2 stack s (Err (Over e)) h g = (g.0, moves_then b b1 g.0 ns ms k k1 k2 h g.1, g.2)
goes_then script choices fuel b b1 all ns ms k k1 k2 stack s (Err WriteFault) h g =
    (g.0, (g.1.0, g.1.1, g.1.2, reaches_then script choices fuel b b1 all ns ms k k1 g.0 _ h g.1.3, g.1.4, g.1.5))
goes_then script choices fuel b b1 all ns ms k k1 k2 stack s (Err NoMemory) h g = (g.0, (g.1.0, reaches_then script choices fuel b b1 all ns ms k k1 g.0 g.1.0 h g.1.1, g.1.2))

-- nothing was done yet
pub walks_begin : (env : Env) (stack : List Frame) (s : State) (taken : List ℕ) (sink : SinkState) (t : Task) → Walks env stack s taken taken sink sink stack s (Ok t) (λ st. task_does st t)
walks_begin env stack s taken sink t = record {
  numbers = [];
  took = sym (append-nil taken);
  goes = λ script choices fuel b vs program h a. (b, moves_none b sink, goes script choices fuel b vs stack s t h);
}

-- steps, and then more
pub walks_then : (env : Env) (old mid new : List Frame) (s s1 s2 : State) (t0 t1 t2 : List ℕ) (k k1 k2 : SinkState) (t : Task) (r : Result Task Stop) (part : Setting → Moment → Out)
    → Walks env old s t0 t1 k k1 mid s1 (Ok t) part → Walks env mid s1 t1 t2 k1 k2 new s2 r (λ st. task_does st t) → Walks env old s t0 t2 k k2 new s2 r part
walks_then env old mid new s s1 s2 t0 t1 t2 k k1 k2 t r part w v = record {
  numbers = w.numbers ++ v.numbers;
  took = v.took ∙ ap (λ (ns : List ℕ). ns ++ v.numbers) w.took ∙ append_assoc t0 w.numbers v.numbers;
  goes = λ script choices fuel b vs program h a.
      let st = setting script choices fuel in
      let all : Out = resume st old vs.callers (part st (moment b vs s)) in
      let g = w.goes script choices fuel b vs program h (agrees_first choices b.taken w.numbers v.numbers a) in
      let b1 : Before = g.0 in
      let more : Agrees choices b1.taken v.numbers = agrees_second choices b.taken b1.taken w.numbers v.numbers g.1.count a in
      goes_then script choices fuel b b1 all w.numbers v.numbers k k1 k2 new s2 r g.1
      (subst (λ (o : Out). Goes script choices fuel b1 o v.numbers k1 k2 new s2 r) g.2.is (v.goes script choices fuel b1 g.2.variables program g.2.stands more));
}

-- a step that reaches nothing outside, where memory may be refused after it was begun
kept_goes : (script : ScriptTree) (choices : List ℕ) (fuel : ℕ) (b : Before) (vs : Variables) (old new : List Frame) (s s1 : State) (sink : SinkState) (t : Task) (r : Result Task Halt) → Stands script fuel vs old s
    → Keeps script choices fuel b (resume (setting script choices fuel) old vs.callers (task_does (setting script choices fuel) t (moment b vs s))) new s1 r
    → Goes script choices fuel b (resume (setting script choices fuel) old vs.callers (task_does (setting script choices fuel) t (moment b vs s))) [] sink sink new s1 (next_of r)
kept_goes script choices fuel b vs old new s s1 sink t (Ok u) h k = (b, moves_none b sink, k)
kept_goes script choices fuel b vs old new s s1 sink t (Err (halt.Over e)) h k = (b, moves_none b sink, k)
kept_goes script choices fuel b vs old new s s1 sink t (Err halt.NoMemory) h k =
    (sink, (t, record { before = b; moves = moves_none b sink; stack = old; state = s; leads = goes script choices fuel b vs old s t h }, record { bytes = refl; faults = refl }))

pub walks_step : (env : Env) (old new : List Frame) (s s1 : State) (taken : List ℕ) (sink : SinkState) (t : Task) (r : Result Task Halt)
    → StepsIn env old s new s1 r (λ st. task_does st t) → Walks env old s taken taken sink sink new s1 (next_of r) (λ st. task_does st t)
walks_step env old new s s1 taken sink t r steps = record {
  numbers = [];
  took = sym (append-nil taken);
  goes = λ script choices fuel b vs program h a. kept_goes script choices fuel b vs old new s s1 sink t r h (steps script choices fuel b vs program h);
}

-- a run that is given up at the point that it has reached
pub walks_given_up : (env : Env) (old new : List Frame) (s s1 : State) (t0 t1 : List ℕ) (k k1 : SinkState) (t : Task) (part : Setting → Moment → Out)
    → Walks env old s t0 t1 k k1 new s1 (Ok t) part → Walks env old s t0 t1 k k1 new s1 (Err NoMemory) part
walks_given_up env old new s s1 t0 t1 k k1 t part w = record {
  numbers = w.numbers;
  took = w.took;
  goes = λ script choices fuel b vs program h a.
      let g = w.goes script choices fuel b vs program h a in
      (k1, (t, record { before = g.0; moves = g.1; stack = new; state = s1; leads = g.2 }, record { bytes = refl; faults = refl }));
}
