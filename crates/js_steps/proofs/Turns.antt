-- A turn of a loop.
use Rattle.std.proofs.Common.{◌≡◌, refl, ap, sym, ◌∙◌, subst, ℕ, List}
use Rattle.std.specs.Prelude.{Result, Ok, Err}
use Rattle.std.specs.Result.{IsErrAnd}
use Rattle.js_tree.specs.Script.{Stmt, Stmts}
use Rattle.js_tree.specs.Value as run
use Rattle.js_tree.specs.Value.{Value, World, Outcome, gives, throws, over, Going, and_then, tick}
use Rattle.js_tree.specs.Evaluate.{Setting, setting, Flow, exec, exec_all, frame, after_turn}
use Rattle.js_code.specs.Parts.{stmt_at, stmts_at}
use Rattle.js_steps.specs.declared.frames.frame.End.TheVariants as end
use Rattle.js_steps.specs.declared.frames.frame.Frame.{Frame}
use Rattle.js_steps.specs.declared.frames.frame.Halt.{Halt}
use Rattle.js_steps.specs.declared.frames.frame.Halt.TheVariants.{Over}
use Rattle.js_steps.specs.declared.frames.frame.Task.{Task}
use Rattle.js_steps.specs.declared.frames.state.State.{State}
use Rattle.js_steps.specs.Moment.{Moment, Out, in_world, in_frame, flowing, stmts_do, with_flow}
use Rattle.js_steps.specs.PartWaits.{turn_does}
use Rattle.js_steps.specs.Stack.{loop_label, resume, turned}
use Rattle.js_steps.specs.Stands.{Keeps, Steps, Ticked, moment, world_of}
use Rattle.js_steps.specs.StepLaws.{stops}
use Rattle.js_steps.specs.TickLaws.{tick_is_none}

-- a statement's outcome is the same in any world and any frame of its moment
flowing_in : (m : Moment) (w : World) (o : Outcome run.Frame Flow) → flowing m o ≡ flowing (in_world m w) o
flowing_in m w (gives f s) = refl
flowing_in m w (throws at v s) = refl
flowing_in m w (over e u) = refl

flowing_frame : (m : Moment) (f : run.Frame) (o : Outcome run.Frame Flow) → flowing m o ≡ flowing (in_frame m f) o
flowing_frame m f (gives x s) = refl
flowing_frame m f (throws at v s) = refl
flowing_frame m f (over e u) = refl

-- a part, and then on
pub flow_goes_on : (m : Moment) (o : Outcome run.Frame Flow) (next : Flow → run.Frame → Outcome run.Frame Flow) (next' : Flow → Moment → Out)
    → ((x : Flow) (f : run.Frame) → flowing (in_frame m f) (next x f) ≡ next' x (in_frame m f)) → flowing m (and_then o next) ≡ with_flow (flowing m o) next'
flow_goes_on m (gives x f) next next' h = flowing_frame m f (next x f) ∙ h x f
flow_goes_on m (throws at v f) next next' h = refl
flow_goes_on m (over e w) next next' h = refl

-- what a turn does once its tick is taken
abbrev after_tick : Setting → Stmt → Stmts → Moment → Outcome World (Unit {0}) → Out
after_tick st s ss m o = flowing m (and_then (run.in_frame m.locals o) (λ _ f. and_then (exec_all st m.scope ss f) (after_turn (loop_label s) (exec st m.scope s))))

-- a turn after a tick, and the loop again
pub turn_goes : (st : Setting) (m : Moment) (w : World) (i : ℕ) (ss : Stmts) → tick m.world ≡ gives tt w
    → turn_does st (stmt_at m.trees i) (loop_label (stmt_at m.trees i)) ss m ≡ with_flow (stmts_do st ss (in_world m w)) (λ x n. turned st (stmt_at n.trees i) x n)
turn_goes st m w i ss e =
    let s : Stmt = stmt_at m.trees i in
    ap (after_tick st s ss m) e
    ∙ flowing_in m w (and_then (exec_all st m.scope ss (frame m.locals w)) (after_turn (loop_label s) (exec st m.scope s)))
    ∙ flow_goes_on (in_world m w) (exec_all st m.scope ss (frame m.locals w)) (after_turn (loop_label s) (exec st m.scope s)) (λ x n. turned st (stmt_at n.trees i) x n) (λ x f. refl)

-- no tick is left
turn_ends : (st : Setting) (m : Moment) (w : World) (s : Stmt) (ss : Stmts) → tick m.world ≡ over Going w → turn_does st s (loop_label s) ss m ≡ over Going w
turn_ends st m w s ss e = ap (after_tick st s ss m) e

pub turn_stops : (stack : List Frame) (s s1 : State) (r : Result Task Halt) (x : Halt) (i body : ℕ) → IsErrAnd r (λ y. y ≡ x) → Ticked s s1 (Err x)
    → Steps stack s stack s1 r (λ st m. turn_does st (stmt_at m.trees i) (loop_label (stmt_at m.trees i)) (stmts_at m.trees body) m)
turn_stops stack s s1 (Ok t) x i body h q = absurd h
turn_stops stack s s1 (Err y) x i body h q = λ script choices fuel b vs stands.
    let st = setting script choices fuel in
    let m = moment b vs s in
    let o = turn_does st (stmt_at m.trees i) (loop_label (stmt_at m.trees i)) (stmts_at m.trees body) m in
    subst (λ (z : Halt). Keeps script choices fuel b (resume st stack vs.callers o) stack s1 (Err z)) (sym (h ∙ q.2))
    (subst (λ (z : State). Keeps script choices fuel b (resume st stack vs.callers o) stack z (Err (Over end.Going))) (sym q.1)
    (stops script choices fuel b vs stack s end.Going o (turn_ends st m (world_of b vs s) (stmt_at m.trees i) (stmts_at m.trees body) (tick_is_none b vs s q.0))))
