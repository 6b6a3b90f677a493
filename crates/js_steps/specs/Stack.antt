-- Own: what is left to be done, by the frames on the stack and what is done next.
use Rattle.std.specs.Prelude.{ℕ, List, [], ◌∷◌, ◌++◌, Option, Some, None, option_map, pos, slice_get, drop}
use Rattle.std.specs.Borrow.{Bor}
use Rattle.js_tree.specs.Script.{Name, Stmt, while, forever}
use Rattle.js_tree.specs.Value.{Value, whole, bytes, nothing, World, Locals, Outcome, gives, throws, over}
use Rattle.js_tree.specs.Value as run
use Rattle.js_tree.specs.Evaluate.{Setting, Scope, Flow, onward, breaks, continues, returns, exec, exec_all, exec_through, go_on, after_turn, after_switch, written, picked}
use Rattle.js_code.specs.Parts.{expr_at, exprs_at, stmt_at, stmts_at, else_at, cases_at, trees_of}
use Rattle.js_value.specs.HeapSeen.{value_of, values_of}
use Rattle.js_value.specs.declared.heap.value.Value as held
use Rattle.js_simple.specs.declared.state.Halt as simple
use Rattle.js_simple.specs.declared.state.Halt.TheVariants as simple_halt
use Rattle.js_steps.specs.Bodies.{names_in}
use Rattle.js_steps.specs.declared.bodies.body.Body.{Body}
use Rattle.js_steps.specs.declared.frames.frame.Use.{Use}
use Rattle.js_steps.specs.declared.frames.frame.Caller.{Caller}
use Rattle.js_steps.specs.declared.frames.frame.Flow as step
use Rattle.js_steps.specs.declared.frames.frame.Flow.TheVariants as step_flow
use Rattle.js_steps.specs.declared.frames.frame.Frame.{Frame}
use Rattle.js_steps.specs.declared.frames.frame.Frame.TheVariants as waiting
use Rattle.js_steps.specs.declared.frames.frame.Task.{Task}
use Rattle.js_steps.specs.declared.frames.frame.Task.TheVariants as next
use Rattle.js_steps.specs.declared.frames.frame.End as stop
use Rattle.js_steps.specs.declared.frames.frame.End.TheVariants as stop_end
use Rattle.js_steps.specs.declared.frames.frame.Halt as halt
use Rattle.js_steps.specs.declared.frames.frame.Halt.TheVariants as halt_why
use Rattle.js_steps.specs.Moment.{Moment, value, flow, Out, frame_in, flowing, expr_does, stmt_does, stmts_do, else_does, with_value, with_flow, with_throw, called_here, arguments_do, elements_do}
use Rattle.js_steps.specs.PartWaits.{first_does, second_does, third_does, callee_does}

-- a label that may be missing
abbrev pub label_of : Option (Bor Name) → Option Name
label_of x = option_map (λ x. x.now) x

abbrev pub flow_of : step.Flow → Flow
flow_of step_flow.Onward = onward
flow_of (step_flow.Breaks x) = breaks (label_of x)
flow_of (step_flow.Continues x) = continues (label_of x)
flow_of (step_flow.Returns v) = returns (option_map value_of v)

abbrev pub end_of : stop.End → run.End
end_of stop_end.Going = run.Going
end_of (stop_end.Ended code text) = run.Ended code text.now
end_of (stop_end.Stuck at) = run.Stuck at

-- why an expression has no value, as why a step leads nowhere
abbrev pub halt_of : simple.Halt → halt.Halt
halt_of (simple_halt.Stuck at) = halt_why.Over (stop_end.Stuck at)
halt_of simple_halt.NoMemory = halt_why.NoMemory

abbrev pub scope_in : Body → Option held.Value → Scope
scope_in b caught = record { names = names_in b; caught = option_map value_of caught }

-- the caller's part, with its variables; the world stays
abbrev pub caller_moment : Caller → Locals → Moment → Moment
caller_moment k ls m = record { trees = trees_of k.body.now.code; scope = scope_in k.body.now k.caught; locals = ls; world = m.world }

-- the label of a loop
abbrev pub loop_label : Stmt → Option Name
loop_label (while at label test ss) = label
loop_label (forever at label ss) = label
loop_label _ = None

-- after a turn of a loop
abbrev pub turned : Setting → Stmt → Flow → Moment → Out
turned st s f m = flowing m (after_turn (loop_label s) (exec st m.scope s) f (frame_in m))

-- with what was caught outside of a block after `catch`
abbrev pub caught_before : Option held.Value → Moment → Moment
caught_before v m = record m { scope = record m.scope { caught = option_map value_of v } }

-- in another place
abbrev pub back_in : (Moment → Moment) → Out → Out
back_in there (gives a m) = gives a (there m)
back_in there (throws at v m) = throws at v (there m)
back_in there (over e w) = over e w

-- a block after `catch` gets what was thrown
abbrev pub handled : Setting → ℕ → Value → Moment → Out
handled st i v m =
    back_in (λ m'. record m' { scope = m.scope }) (stmts_do st (stmts_at m.trees i) (record m { scope = record m.scope { caught = Some v } }))

-- 13.2.1: what a call gives
abbrev pub left : ℕ → Use → Out → Out
left at u (gives (flow (returns v)) m) = called_here at u m (gives v m.world)
left at u (gives a m) = called_here at u m (gives None m.world)
left at u (throws x v m) = throws x v m
left at u (over e w) = over e w

-- what a frame does with the part that it waits for; a call goes back to the caller's variables
abbrev pub frame_does : Setting → Frame → Locals → Out → Out
frame_does st (waiting.First i) ls o = with_value o (λ v m. first_does st (slice_get m.trees i) v m)
frame_does st (waiting.Second i u) ls o = with_value o (λ v m. second_does st (slice_get m.trees i) (value_of u) v m)
frame_does st (waiting.Third i u v) ls o = with_value o (λ x m. third_does (slice_get m.trees i) (value_of u) (value_of v) x m)
frame_does st (waiting.Callee i u) ls o = with_value o (λ v m. callee_does st u (slice_get m.trees i) v m)
frame_does st (waiting.Argument at u f done i) ls o = with_value o (λ v m. arguments_do st at u (value_of f) (values_of done.items ++ v ∷ []) (exprs_at m.trees i) m)
frame_does st (waiting.Item done i) ls o = with_value o (λ v m. elements_do st (values_of done.items ++ v ∷ []) (exprs_at m.trees i) m)
frame_does st (waiting.Rest i) ls o = with_flow o (λ f m. flowing m (go_on (exec_all st m.scope (stmts_at m.trees i)) f (frame_in m)))
frame_does st (waiting.Turn i) ls o = with_flow o (λ f m. turned st (stmt_at m.trees i) f m)
frame_does st (waiting.Through i) ls o = with_flow o (λ f m. flowing m (go_on (exec_through st m.scope (cases_at m.trees i)) f (frame_in m)))
frame_does st (waiting.Switch label) ls o = with_flow o (λ f m. flowing m (after_switch (label_of label) f (frame_in m)))
frame_does st (waiting.Catch i) ls o = with_throw o (handled st i)
frame_does st (waiting.Caught v) ls o = back_in (caught_before v) o
frame_does st (waiting.Leave at u k) ls o = left at u (back_in (caller_moment k ls) o)

-- the variables of the callers, of which a call's frame takes the first
abbrev pub first_of : List Locals → Locals
first_of [] = []
first_of (ls ∷ callers) = ls

abbrev pub after_frame : Frame → List Locals → List Locals
after_frame (waiting.Leave at u k) callers = drop 1 callers
after_frame _ callers = callers

-- what the whole stack does, whose last frame is the innermost, with the variables of the callers from the outermost on
abbrev pub resume : Setting → List Frame → List Locals → Out → Out
resume st [] callers o = o
resume st (f ∷ fs) callers o = frame_does st f (first_of callers) (resume st fs (after_frame f callers) o)

-- a frame that is no call's
abbrev pub IsNoCall : Frame → Type 0
IsNoCall (waiting.Leave at u k) = ⊥
IsNoCall _ = Unit {0}

-- what is done next
abbrev pub task_does : Setting → Task → Moment → Out
task_does st (next.Evaluate i) m = expr_does st (expr_at m.trees i) m
task_does st (next.Execute i) m = stmt_does st (stmt_at m.trees i) m
task_does st (next.Statements i) m = stmts_do st (stmts_at m.trees i) m
task_does st (next.Else i) m = else_does st (else_at m.trees i) m
task_does st (next.Through i) m = flowing m (exec_through st m.scope (cases_at m.trees i) (frame_in m))
task_does st (next.Give v) m = gives (value (value_of v)) m
task_does st (next.Follow f) m = gives (flow (flow_of f)) m
task_does st (next.Throw at v) m = throws at (value_of v) m
task_does st (next.Write at u s) m = called_here at u m (written at (bytes s.now ∷ []) m.world)
task_does st (next.Pick at u k) m = called_here at u m (picked at st.choices (whole (pos k) ∷ []) m.world)
