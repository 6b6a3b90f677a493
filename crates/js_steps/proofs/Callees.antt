-- What is called: a function of the script, a function of the host, or nothing.
use Rattle.std.proofs.Common.{◌≡◌, refl, ap, sym, ◌∙◌, subst, ℕ, List, Option, Some, None, false}
use Rattle.std.specs.Prelude.{Result, Err}
use Rattle.std.specs.Borrow.{Bor}
use Rattle.std.specs.List.{list_any}
use Rattle.js_tree.specs.Script.{Name, Function, ScriptTree}
use Rattle.js_tree.specs.Value as run
use Rattle.js_tree.specs.Value.{Value, World, over}
use Rattle.js_tree.specs.Evaluate.{Setting, setting, Called, Host, find_function, host_named, call_function, call_host, call_named, call_value}
use Rattle.js_tree.specs.View.{function_view}
use Rattle.js_tree.specs.declared.tree.JsFunction.{JsFunction}
use Rattle.js_code.specs.NameLaws.{same_name}
use Rattle.js_value.specs.HeapSeen.{value_of, values_of}
use Rattle.js_value.specs.declared.heap.value.Value as held
use Rattle.js_value.specs.declared.heap.value.Value.TheVariants as held_value
use Rattle.js_steps.specs.Bodies.{IsFunction, IsNamed, IsProgram, has_name, has_name_in}
use Rattle.js_steps.specs.declared.bodies.body.Body.{Body}
use Rattle.js_steps.specs.declared.frames.frame.End.TheVariants as end
use Rattle.js_steps.specs.declared.frames.frame.Frame.{Frame}
use Rattle.js_steps.specs.declared.frames.frame.Halt.{Halt}
use Rattle.js_steps.specs.declared.frames.frame.Halt.TheVariants.{Over}
use Rattle.js_steps.specs.declared.frames.frame.Task.{Task}
use Rattle.js_steps.specs.declared.frames.frame.Use.{Use}
use Rattle.js_steps.specs.declared.frames.state.Env.{Env}
use Rattle.js_steps.specs.declared.frames.state.State.{State}
use Rattle.js_steps.specs.Moment.{Moment, Out, called_here}
use Rattle.js_steps.specs.Stack.{resume}
use Rattle.js_steps.specs.Stands.{Before, Leads, Keeps, Steps, StepsIn, StepsOf, moment, world_of}
use Rattle.js_steps.specs.StepLaws.{stops}
use Rattle.js_steps.proofs.Goes.{stuck}

-- a function of the script, by a name
pub record Finds (script : ScriptTree) (x : Name) (b : Body) : Type 0 where
  pub function : Bor JsFunction
  pub is : IsFunction script b function
  pub no_host : host_named x ≡ None
  pub found : find_function x script.items ≡ Some (function_view function.now)

finds : (script : ScriptTree) (bodies : List Body) (x : Name) (b : Body) → IsProgram script bodies → IsNamed bodies x b → Finds script x b
finds script bodies x b program n =
    let p = program.each n.number b n.held in
    let f : Bor JsFunction = p.0 in
    let isf : IsFunction script b f = p.1 in
    let same : (function_view f.now).name ≡ x = same_name (function_view f.now).name x (sym (ap (has_name_in x) isf.made.function) ∙ n.named) in
    record {
      function = f;
      is = isf;
      no_host = subst (λ (y : Name). host_named y ≡ None) same isf.no_host;
      found = subst (λ (y : Name). find_function y script.items ≡ Some (function_view f.now)) same isf.found;
    }

pub named_function : (env : Env) (stack new : List Frame) (s s1 : State) (r : Result Task Halt) (x : Name) (at : ℕ) (u : Use) (values : List held.Value) (b : Body) → IsNamed env.functions.now x b
    → ((f : Bor JsFunction) → StepsOf f b stack s new s1 r (λ st m. called_here at u m (call_function st at (Some (function_view f.now)) (values_of values) m.world)))
    → StepsIn env stack s new s1 r (λ st m. called_here at u m (call_named st at (host_named x) x (values_of values) m.world))
named_function env stack new s s1 r x at u values body n steps = λ script choices fuel b vs program h.
    let st = setting script choices fuel in
    let w : World = world_of b vs s in
    let p = finds script env.functions.now x body program n in
    let e : call_named st at (host_named x) x (values_of values) w ≡ call_function st at (Some (function_view p.function.now)) (values_of values) w =
    ap (λ (o : Option Host). call_named st at o x (values_of values) w) p.no_host
    ∙ ap (λ (o : Option Function). call_function st at o (values_of values) w) p.found in
    subst (λ (c : Called). Keeps script choices fuel b (resume st stack vs.callers (called_here at u (moment b vs s) c)) new s1 r) (sym e) (steps p.function script choices fuel b vs p.is h)

pub named_host : (env : Env) (stack : List Frame) (s s1 : State) (r : Result Task Halt) (x : Name) (at : ℕ) (u : Use) (values : List held.Value) (o : Option Host) (host : Host) → o ≡ host_named x → o ≡ Some host
    → Steps stack s stack s1 r (λ st m. called_here at u m (call_host st at host (values_of values) m.world))
    → StepsIn env stack s stack s1 r (λ st m. called_here at u m (call_named st at (host_named x) x (values_of values) m.world))
named_host env stack s s1 r x at u values o host q k steps = λ script choices fuel b vs program h.
    let st = setting script choices fuel in
    let w : World = world_of b vs s in
    let e : call_named st at (host_named x) x (values_of values) w ≡ call_host st at host (values_of values) w = ap (λ (o : Option Host). call_named st at o x (values_of values) w) (sym q ∙ k) in
    subst (λ (c : Called). Keeps script choices fuel b (resume st stack vs.callers (called_here at u (moment b vs s) c)) stack s1 r) (sym e) (steps script choices fuel b vs h)

pub named_none : (env : Env) (stack : List Frame) (s : State) (x : Name) (at : ℕ) (u : Use) (values : List held.Value) → list_any (has_name x) env.functions.now ≡ false → host_named x ≡ None
    → StepsIn env stack s stack s (Err (Over (end.Stuck at))) (λ st m. called_here at u m (call_named st at (host_named x) x (values_of values) m.world))
named_none env stack s x at u values q k = λ script choices fuel b vs program h.
    let st = setting script choices fuel in
    let m : Moment = moment b vs s in
    stops script choices fuel b vs stack s (end.Stuck at) (called_here at u m (call_named st at (host_named x) x (values_of values) m.world))
    (ap (called_here at u m)
    (ap (λ (o : Option Host). call_named st at o x (values_of values) m.world) k
    ∙ ap (λ (o : Option Function). call_function st at o (values_of values) m.world) (program.no_other x q)))

-- a function by its name, and any other value
pub by_name : (env : Env) (stack new : List Frame) (s s1 : State) (r : Result Task Halt) (at n : ℕ) (u : Use) (v : held.Value) (x : Bor Name) (vs : List Value) → v ≡ held_value.Function n x
    → StepsIn env stack s new s1 r (λ st m. called_here at u m (call_named st at (host_named x.now) x.now vs m.world))
    → StepsIn env stack s new s1 r (λ st m. called_here at u m (call_value st at (value_of v) vs m.world))
by_name env stack new s s1 r at n u v x vs e steps =
    subst (λ (y : held.Value). StepsIn env stack s new s1 r (λ st m. called_here at u m (call_value st at (value_of y) vs m.world))) (sym e) steps

no_function : (st : Setting) (at : ℕ) (v : held.Value) (vs : List Value) (w : World) → ((n : ℕ) (x : Bor Name) → v ≡ held_value.Function n x → ⊥) → call_value st at (value_of v) vs w ≡ over (run.Stuck at) w
no_function st at (held_value.Function n x) vs w h = absurd (h n x refl)
no_function st at (held_value.Whole n) vs w h = refl
no_function st at (held_value.Literal s) vs w h = refl
no_function st at (held_value.Made s) vs w h = refl
no_function st at (held_value.Truth b) vs w h = refl
no_function st at held_value.Nothing vs w h = refl
no_function st at (held_value.Object id) vs w h = refl

pub not_called : (env : Env) (stack : List Frame) (s : State) (at : ℕ) (u : Use) (v : held.Value) (vs : List Value) → ((n : ℕ) (x : Bor Name) → v ≡ held_value.Function n x → ⊥)
    → StepsIn env stack s stack s (Err (Over (end.Stuck at))) (λ st m. called_here at u m (call_value st at (value_of v) vs m.world))
not_called env stack s at u v vs h = λ script choices fuel b vars program stands.
    stuck stack s at (λ st m. called_here at u m (call_value st at (value_of v) vs m.world)) (λ st m. ap (called_here at u m) (no_function st at v vs m.world h)) script choices fuel b vars stands

-- the same arguments in another list
pub host_list : (stack : List Frame) (s s1 : State) (r : Result Task Halt) (at : ℕ) (u : Use) (host : Host) (xs ys : List held.Value) → xs ≡ ys
    → Steps stack s stack s1 r (λ st m. called_here at u m (call_host st at host (values_of xs) m.world))
    → Steps stack s stack s1 r (λ st m. called_here at u m (call_host st at host (values_of ys) m.world))
host_list stack s s1 r at u host xs ys e steps = subst (λ (zs : List held.Value). Steps stack s stack s1 r (λ st m. called_here at u m (call_host st at host (values_of zs) m.world))) e steps

-- with other lists for the calls to come
pub spared : (script : ScriptTree) (choices : List ℕ) (fuel : ℕ) (b : Before) (all : Out) (stack : List Frame) (s x : State) (t : Task)
    → Leads script choices fuel b all stack s t → Leads script choices fuel b all stack (record s { spare = x.spare }) t
spared script choices fuel b all stack s x t k = record {
  variables = k.variables;
  stands = record { body = k.stands.body; locals = k.stands.locals; globals = k.stands.globals; only = k.stands.only; callers = k.stands.callers; few = k.stands.few };
  is = k.is;
}
