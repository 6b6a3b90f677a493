-- Steps that take the innermost frame from the stack.
use Rattle.std.proofs.Common.{◌≡◌, ap, sym, ◌∙◌, subst, ℕ, List, [], ◌∷◌, ◌++◌, Option}
use Rattle.std.specs.Prelude.{Result, ◌≤◌}
use Rattle.std.specs.Borrow.{Bor}
use Rattle.js_tree.specs.Script.{ScriptTree}
use Rattle.js_tree.specs.Value.{Locals, Object}
use Rattle.js_tree.specs.Evaluate.{Setting, setting}
use Rattle.js_code.specs.Names.{distinct}
use Rattle.js_code.specs.Slots.{slots_of}
use Rattle.js_code.specs.Parts.{trees_of}
use Rattle.js_value.specs.HeapSeen.{objects_of}
use Rattle.js_value.specs.declared.heap.value.Value as held
use Rattle.js_simple.specs.Seen.{slots_in}
use Rattle.js_steps.specs.Bodies.{IsBody, names_in}
use Rattle.js_steps.specs.declared.bodies.body.Body.{Body}
use Rattle.js_steps.specs.declared.frames.frame.Caller.{Caller}
use Rattle.js_steps.specs.declared.frames.frame.Frame.{Frame}
use Rattle.js_steps.specs.declared.frames.frame.Frame.TheVariants as frame
use Rattle.js_steps.specs.declared.frames.frame.Halt.{Halt}
use Rattle.js_steps.specs.declared.frames.frame.Task.{Task}
use Rattle.js_steps.specs.declared.frames.frame.Use.{Use}
use Rattle.js_steps.specs.declared.frames.state.Env.{Env}
use Rattle.js_steps.specs.declared.frames.state.State.{State}
use Rattle.js_steps.specs.Moment.{Moment, Out}
use Rattle.js_steps.specs.Stack.{IsNoCall, back_in, caller_moment, caught_before, frame_does, left, resume, scope_in}
use Rattle.js_steps.specs.Stands.{Before, Variables, Stands, Keeps, Steps, StepsIn, moment}
use Rattle.js_steps.specs.StackLaws.{Innermost, callers_leave, callers_pop, resume_enter, resume_push}
use Rattle.js_steps.specs.Back.{IsBack}

-- a frame fewer
pub stands_popped : (script : ScriptTree) (fuel : ℕ) (vs : Variables) (stack : List Frame) (s : State) (f : Frame) → IsNoCall f → Stands script fuel vs (stack ++ f ∷ []) s → Stands script fuel vs stack s
stands_popped script fuel vs stack s f n h =
    record { body = h.body; locals = h.locals; globals = h.globals; only = h.only; callers = callers_pop script stack f vs.callers n h.callers; few = h.few }

-- what the innermost frame does with a part is done, where it is no call's
pub pops : (stack new : List Frame) (s s' : State) (r : Result Task Halt) (f : Frame) (part part' : Setting → Moment → Out) → IsNoCall f
    → ((script : ScriptTree) (choices : List ℕ) (fuel : ℕ) (b : Before) (vs : Variables) → Stands script fuel vs stack s
    → frame_does (setting script choices fuel) f [] (part (setting script choices fuel) (moment b vs s)) ≡ part' (setting script choices fuel) (moment b vs s))
    → Steps stack s new s' r part' → Steps (stack ++ f ∷ []) s new s' r part
pops stack new s s' r f part part' n e k = λ script choices fuel b vs h.
    let st = setting script choices fuel in
    let m = moment b vs s in
    let stands = stands_popped script fuel vs stack s f n h in
    subst (λ (o : Out). Keeps script choices fuel b o new s' r)
    (sym (resume_push st stack f vs.callers (part st m) n ∙ ap (resume st stack vs.callers) (e script choices fuel b vs stands)))
    (k script choices fuel b vs stands)

-- the same, with the functions of the script
pub pops_in : (env : Env) (stack new : List Frame) (s s' : State) (r : Result Task Halt) (f : Frame) (part part' : Setting → Moment → Out) → IsNoCall f
    → ((st : Setting) (m : Moment) → frame_does st f [] (part st m) ≡ part' st m)
    → StepsIn env stack s new s' r part' → StepsIn env (stack ++ f ∷ []) s new s' r part
pops_in env stack new s s' r f part part' n e k = λ script choices fuel b vs program h.
    let st = setting script choices fuel in
    let m = moment b vs s in
    subst (λ (o : Out). Keeps script choices fuel b o new s' r) (sym (resume_push st stack f vs.callers (part st m) n ∙ ap (resume st stack vs.callers) (e st m)))
    (k script choices fuel b vs program (stands_popped script fuel vs stack s f n h))

-- a step whatever the functions of the script are
pub steps_in : (env : Env) (old new : List Frame) (s s' : State) (r : Result Task Halt) (part : Setting → Moment → Out) → Steps old s new s' r part → StepsIn env old s new s' r part
steps_in env old new s s' r part k = λ script choices fuel b vs program h. k script choices fuel b vs h

-- with what was caught outside of a block after `catch`
abbrev pub with_caught : State → Option held.Value → State
with_caught s v = record s { caught = v }

pub stands_caught : (script : ScriptTree) (fuel : ℕ) (vs : Variables) (stack : List Frame) (s : State) (v : Option held.Value) → Stands script fuel vs stack s → Stands script fuel vs stack (with_caught s v)
stands_caught script fuel vs stack s v h = record { body = h.body; locals = h.locals; globals = h.globals; only = h.only; callers = h.callers; few = h.few }

pub pops_caught : (stack new : List Frame) (s s' : State) (r : Result Task Halt) (v : Option held.Value) (part part' : Setting → Moment → Out)
    → ((st : Setting) (m : Moment) → back_in (caught_before v) (part st m) ≡ part' st (caught_before v m))
    → Steps stack (with_caught s v) new s' r part' → Steps (stack ++ frame.Caught v ∷ []) s new s' r part
pops_caught stack new s s' r v part part' e k = λ script choices fuel b vs h.
    let st = setting script choices fuel in
    let m = moment b vs s in
    let stands = stands_popped script fuel vs stack s (frame.Caught v) tt h in
    subst (λ (o : Out). Keeps script choices fuel b o new s' r)
    (sym (resume_push st stack (frame.Caught v) vs.callers (part st m) tt ∙ ap (resume st stack vs.callers) (e st m)))
    (k script choices fuel b vs (stands_caught script fuel vs stack s v stands))

-- the variables, back in the caller's part
abbrev back_to : Variables → Locals → List Locals → Variables
back_to vs ls callers = record { globals = vs.globals; locals = ls; callers = callers }

abbrev at_caller : Before → Variables → Bor Body → Option held.Value → ℕ → List Object → Moment
at_caller b vs k caught n os =
    record { trees = trees_of k.now.code; scope = scope_in k.now caught; locals = vs.locals; world = record { left = n; printed = b.printed; taken = b.taken; objects = os; globals = vs.globals } }

moment_back : (b : Before) (vs : Variables) (k : Caller) (s s1 : State) (ls : Locals) (callers : List Locals) → IsBack k s s1 → moment b (back_to vs ls callers) s1 ≡ caller_moment k ls (moment b vs s)
moment_back b vs k s s1 ls callers h =
    let v = back_to vs ls callers in
    ap (λ (x : Bor Body). at_caller b v x s1.caught s1.left (objects_of s1.objects.items)) h.body
    ∙ ap (λ (c : Option held.Value). at_caller b v k.body c s1.left (objects_of s1.objects.items)) h.caught
    ∙ ap (λ (n : ℕ). at_caller b v k.body k.caught n (objects_of s1.objects.items)) h.left
    ∙ ap (λ os. at_caller b v k.body k.caught s.left (objects_of os.items)) h.objects

stands_back : (script : ScriptTree) (fuel : ℕ) (vs : Variables) (stack : List Frame) (k : Caller) (s s1 : State) (at : ℕ) (u : Use) (i : Innermost script stack k vs.callers) → IsBack k s s1
    → Stands script fuel vs (stack ++ frame.Leave at u k ∷ []) s → Stands script fuel (back_to vs i.last i.before) stack s1
stands_back script fuel vs stack k s s1 at u i h stands = record {
  body = subst (λ (x : Bor Body). IsBody script x.now) (sym h.body) i.held.0;
  locals = ap (λ (x : Bor Body). slots_of (distinct (names_in x.now)) i.last) h.body ∙ i.held.1 ∙ ap (λ x. slots_in x.items) (sym h.locals);
  globals = stands.globals ∙ ap (λ x. slots_in x.items) (sym h.globals);
  only = stands.only;
  callers = i.stand;
  few = subst (λ (n : ℕ). n ≤ fuel) (sym h.left) stands.few;
}

-- a call's frame goes back to the caller's part
pub pops_leave : (stack new : List Frame) (s s1 s' : State) (r : Result Task Halt) (at : ℕ) (u : Use) (k : Caller) (part part' : Setting → Moment → Out) → IsBack k s s1
    → ((st : Setting) (ls : Locals) (m : Moment) → left at u (back_in (caller_moment k ls) (part st m)) ≡ part' st (caller_moment k ls m))
    → Steps stack s1 new s' r part' → Steps (stack ++ frame.Leave at u k ∷ []) s new s' r part
pops_leave stack new s s1 s' r at u k part part' back e step = λ script choices fuel b vs h.
    let st = setting script choices fuel in
    let m = moment b vs s in
    let i : Innermost script stack k vs.callers = callers_leave script stack at u k vs.callers h.callers in
    let v = back_to vs i.last i.before in
    let q : resume st (stack ++ frame.Leave at u k ∷ []) vs.callers (part st m) ≡ resume st stack i.before (part' st (moment b v s1)) =
    ap (λ (cs : List Locals). resume st (stack ++ frame.Leave at u k ∷ []) cs (part st m)) i.is
    ∙ resume_enter script st stack at u k i.before i.last (part st m) i.stand
    ∙ ap (resume st stack i.before) (e st i.last m ∙ ap (part' st) (sym (moment_back b vs k s s1 i.last i.before back))) in
    subst (λ (o : Out). Keeps script choices fuel b o new s' r) (sym q) (step script choices fuel b v (stands_back script fuel vs stack k s s1 at u i back h))
