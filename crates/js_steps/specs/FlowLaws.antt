-- Statements one after the other, cases and `try`: laws on definitions alone.
use Rattle.std.proofs.Common.{◌≡◌, refl, ap, sym, ◌∙◌, ℕ, List, Some}
use Rattle.std.specs.Prelude.{Ok}
use Rattle.js_tree.specs.Script.{attempt, Stmts, no_stmts, stmt, case}
use Rattle.js_tree.specs.Value as run
use Rattle.js_tree.specs.Value.{Value, World, Outcome, gives, throws, over, and_then}
use Rattle.js_tree.specs.Evaluate.{Setting, setting, Flow, onward, returns, breaks, continues, exec, exec_all, exec_through, go_on, rescued}
use Rattle.js_code.specs.Places.{table_of}
use Rattle.js_code.specs.Parts.{stmt_at, stmts_at, cases_at, trees_of}
use Rattle.js_simple.specs.Simple.{IsSomeCode}
use Rattle.js_steps.specs.Bodies.{names_in}
use Rattle.js_steps.specs.declared.frames.frame.Frame.{Frame}
use Rattle.js_steps.specs.declared.frames.frame.Task.TheVariants as next_task
use Rattle.js_steps.specs.declared.frames.state.State.{State}
use Rattle.js_steps.specs.Moment.{Moment, Out, frame_in, in_frame, flowing, stmt_does, stmts_do, with_flow, with_throw}
use Rattle.js_steps.specs.Stack.{back_in, handled}
use Rattle.js_steps.specs.Stands.{Steps, moment}
use Rattle.js_steps.specs.StepLaws.{goes_as}

-- a statement's outcome is the same in any frame of its moment
pub flowing_frame : (m : Moment) (f : run.Frame) (o : Outcome run.Frame Flow) → flowing m o ≡ flowing (in_frame m f) o
flowing_frame m f (gives x s) = refl
flowing_frame m f (throws at v s) = refl
flowing_frame m f (over e u) = refl

-- a part, and then on
pub flow_then : (m : Moment) (o : Outcome run.Frame Flow) (next : Flow → run.Frame → Outcome run.Frame Flow)
    → flowing m (and_then o next) ≡ with_flow (flowing m o) (λ x n. flowing n (next x (frame_in n)))
flow_then m (gives x f) next = flowing_frame m f (next x f)
flow_then m (throws at v f) next = refl
flow_then m (over e w) next = refl

-- the same, where what follows is told with the moment
pub flow_goes_on : (m : Moment) (o : Outcome run.Frame Flow) (next : Flow → run.Frame → Outcome run.Frame Flow) (next' : Flow → Moment → Out)
    → ((x : Flow) (f : run.Frame) → flowing (in_frame m f) (next x f) ≡ next' x (in_frame m f)) → flowing m (and_then o next) ≡ with_flow (flowing m o) next'
flow_goes_on m (gives x f) next next' h = flowing_frame m f (next x f) ∙ h x f
flow_goes_on m (throws at v f) next next' h = refl
flow_goes_on m (over e w) next next' h = refl

-- 12.1: a statement, and those after it
pub stmts_are : (st : Setting) (m : Moment) (first rest : ℕ)
    → stmts_do st (stmt (stmt_at m.trees first) (stmts_at m.trees rest)) m
    ≡ with_flow (stmt_does st (stmt_at m.trees first) m) (λ x n. flowing n (go_on (exec_all st n.scope (stmts_at n.trees rest)) x (frame_in n)))
stmts_are st m first rest = flow_goes_on m (exec st m.scope (stmt_at m.trees first) (frame_in m)) _ _ (λ x f. refl)

-- the last statement
last_of : (st : Setting) (m : Moment) (rest : ℕ) (o : Outcome run.Frame Flow) → stmts_at m.trees rest ≡ no_stmts
    → with_flow (flowing m o) (λ x n. flowing n (go_on (exec_all st n.scope (stmts_at n.trees rest)) x (frame_in n))) ≡ flowing m o
last_of st m rest (gives onward f) h = ap (λ (ss : Stmts). flowing (in_frame m f) (exec_all st m.scope ss f)) h
last_of st m rest (gives (breaks x) f) h = refl
last_of st m rest (gives (continues x) f) h = refl
last_of st m rest (gives (returns v) f) h = refl
last_of st m rest (throws j v f) h = refl
last_of st m rest (over e w) h = refl

pub last_goes : (stack : List Frame) (s : State) (first rest : ℕ) → (IsSomeCode s.body.now.code → stmts_at (trees_of s.body.now.code) rest ≡ no_stmts)
    → Steps stack s stack s (Ok (next_task.Execute first)) (λ st m. with_flow (stmt_does st (stmt_at m.trees first) m) (λ x n. flowing n (go_on (exec_all st n.scope (stmts_at n.trees rest)) x (frame_in n))))
last_goes stack s first rest h = λ script choices fuel b vs stands.
    let st = setting script choices fuel in
    let m = moment b vs s in
    let none = h (table_of script (names_in s.body.now), stands.body.code) in
    goes_as script choices fuel b vs stack s (next_task.Execute first) (with_flow (stmt_does st (stmt_at m.trees first) m) (λ x n. flowing n (go_on (exec_all st n.scope (stmts_at n.trees rest)) x (frame_in n))))
    (sym (last_of st m rest (exec st m.scope (stmt_at m.trees first) (frame_in m)) none)) stands

-- 12.11: a case, and those after it
pub case_is : (st : Setting) (m : Moment) (n body rest : ℕ)
    → flowing m (exec_through st m.scope (case n (stmts_at m.trees body) (cases_at m.trees rest)) (frame_in m))
    ≡ with_flow (stmts_do st (stmts_at m.trees body) m) (λ x n. flowing n (go_on (exec_through st n.scope (cases_at n.trees rest)) x (frame_in n)))
case_is st m n body rest = flow_goes_on m (exec_all st m.scope (stmts_at m.trees body) (frame_in m)) _ _ (λ x f. refl)

-- 12.14: a throw goes to the block after `catch`, and what was caught before is back after it
pub attempt_is : (st : Setting) (m : Moment) (at i : ℕ) (ss hs : Stmts) → stmts_at m.trees i ≡ hs → stmt_does st (attempt at ss hs) m ≡ with_throw (stmts_do st ss m) (handled st i)
attempt_is st m at i ss hs q = by (exec_all st m.scope ss (frame_in m))
  where
    back : (n : Moment) (v : Value) (o : Outcome run.Frame Flow)
        → flowing n o ≡ back_in (λ k. record k { scope = n.scope }) (flowing (record n { scope = record n.scope { caught = Some v } }) o)
    back n v (gives x f) = refl
    back n v (throws j u f) = refl
    back n v (over e w) = refl

    by : (o : Outcome run.Frame Flow) → flowing m (rescued o (λ v f. exec_all st (record m.scope { caught = Some v }) hs f)) ≡ with_throw (flowing m o) (handled st i)
    by (gives x f) = refl
    by (throws j v f) =
        flowing_frame m f (exec_all st (record m.scope { caught = Some v }) hs f)
        ∙ back (in_frame m f) v (exec_all st (record m.scope { caught = Some v }) hs f)
        ∙ ap (λ (zs : Stmts). back_in (λ k. record k { scope = m.scope }) (flowing (record (in_frame m f) { scope = record m.scope { caught = Some v } }) (exec_all st (record m.scope { caught = Some v }) zs f))) (sym q)
    by (over e w) = refl
