-- Own: where a part of a script is done, and what it comes to.
use Rattle.std.specs.Prelude.{ℕ, List, ◌++◌, Option, Some, None, true, false}
use Rattle.js_tree.specs.Script.{Expr, Exprs, Stmt, Stmts, Else}
use Rattle.js_tree.specs.Value.{Value, truth, Object, items, World, Locals, Outcome, gives, throws, over, Stuck, given}
use Rattle.js_tree.specs.Value as run
use Rattle.js_tree.specs.Evaluate.{Setting, Scope, Called, Flow, onward, eval, eval_all, exec, exec_all, exec_else, frame, call_value, allocated, with_objects}
use Rattle.js_code.specs.Parts.{Tree}
use Rattle.js_steps.specs.declared.frames.frame.Use.{Use}
use Rattle.js_steps.specs.declared.frames.frame.Use.TheVariants.{Needed, Dropped}

-- where a part of a call is done: what the parts of the code stand for, and what is evaluated with
pub record Moment : Type 0 where
  pub trees : List Tree
  pub scope : Scope
  pub locals : Locals
  pub world : World

-- what a part comes to: a value, or how a statement completes
pub data Answer : Type 0 where
  value : (v : Value) → Answer
  flow : (f : Flow) → Answer

abbrev pub Out : Type 0
Out = Outcome Moment Answer

abbrev pub in_world : Moment → World → Moment
in_world m w = record m { world = w }

abbrev pub frame_in : Moment → run.Frame
frame_in m = frame m.locals m.world

abbrev pub in_frame : Moment → run.Frame → Moment
in_frame m f = record m { locals = f.locals; world = f.world }

-- an expression's outcome
abbrev pub valued : Moment → Outcome World Value → Out
valued m (gives v w) = gives (value v) (in_world m w)
valued m (throws at v w) = throws at v (in_world m w)
valued m (over e w) = over e w

-- a statement's outcome
abbrev pub flowing : Moment → Outcome run.Frame Flow → Out
flowing m (gives f s) = gives (flow f) (in_frame m s)
flowing m (throws at v s) = throws at v (in_frame m s)
flowing m (over e w) = over e w

abbrev pub expr_does : Setting → Expr → Moment → Out
expr_does st e m = valued m (eval st m.scope m.locals e m.world)

abbrev pub stmt_does : Setting → Stmt → Moment → Out
stmt_does st s m = flowing m (exec st m.scope s (frame_in m))

abbrev pub stmts_do : Setting → Stmts → Moment → Out
stmts_do st ss m = flowing m (exec_all st m.scope ss (frame_in m))

abbrev pub else_does : Setting → Else → Moment → Out
else_does st other m = flowing m (exec_else st m.scope other (frame_in m))

-- goes on with a value; all else is handed on
abbrev pub with_value : Out → (Value → Moment → Out) → Out
with_value (gives (value v) m) next = next v m
with_value (gives (flow f) m) next = gives (flow f) m
with_value (throws at v m) next = throws at v m
with_value (over e w) next = over e w

-- goes on when a statement was completed; all else is handed on
abbrev pub with_flow : Out → (Flow → Moment → Out) → Out
with_flow (gives (value v) m) next = gives (value v) m
with_flow (gives (flow f) m) next = next f m
with_flow (throws at v m) next = throws at v m
with_flow (over e w) next = over e w

-- goes on with a throw; all else is handed on
abbrev pub with_throw : Out → (Value → Moment → Out) → Out
with_throw (throws at v m) handler = handler v m
with_throw (gives a m) handler = gives a m
with_throw (over e w) handler = over e w

-- a value, where the operation at an offset has a meaning
abbrev pub given_here : ℕ → Option Value → Moment → Out
given_here at None m = over (Stuck at) m.world
given_here at (Some v) m = gives (value v) m

abbrev pub popped_here : ℕ → Option (Value × List Object) → Moment → Out
popped_here at None m = over (Stuck at) m.world
popped_here at (Some p) m = gives (value p.0) (in_world m (with_objects p.1 m.world))

abbrev pub done_here : ℕ → Option (List Object) → Moment → Out
done_here at None m = over (Stuck at) m.world
done_here at (Some os) m = gives (flow onward) (in_world m (with_objects os m.world))

-- one of two parts, by a boolean
abbrev pub chosen : ℕ → Value → (Moment → Out) → (Moment → Out) → Moment → Out
chosen at (truth true) left right m = left m
chosen at (truth false) left right m = right m
chosen at _ left right m = over (Stuck at) m.world

-- what a call comes to, for a value or as a statement
abbrev pub called_here : ℕ → Use → Moment → Called → Out
called_here at Needed m (gives o w) = given_here at o (in_world m w)
called_here at Dropped m (gives o w) = gives (flow onward) (in_world m w)
called_here at u m (throws x v w) = throws x v (in_world m w)
called_here at u m (over e w) = over e w

-- goes on with the values of expressions
abbrev pub with_values : Moment → Outcome World (List Value) → (List Value → Moment → Out) → Out
with_values m (gives vs w) next = next vs (in_world m w)
with_values m (throws at v w) next = throws at v (in_world m w)
with_values m (over e w) next = over e w

-- the rest of a call's arguments, and the call
abbrev pub arguments_do : Setting → ℕ → Use → Value → List Value → Exprs → Moment → Out
arguments_do st at u f done es m =
    with_values m (eval_all st m.scope m.locals es m.world) (λ vs m. called_here at u m (call_value st at f (done ++ vs) m.world))

-- the rest of an array's elements, and the array
abbrev pub elements_do : Setting → List Value → Exprs → Moment → Out
elements_do st done es m =
    with_values m (eval_all st m.scope m.locals es m.world) (λ vs m. valued m (allocated (items (done ++ vs)) m.world))
