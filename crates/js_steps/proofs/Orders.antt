-- Statements in order, the first of which is done at once.
use Rattle.std.proofs.Common.{◌≡◌, ap, sym, ◌∙◌, subst, ℕ, List, [], ◌∷◌, ◌++◌, Option, Some, slice_get}
use Rattle.std.specs.Prelude.{Result, Ok, Err}
use Rattle.js_tree.specs.Evaluate.{Setting, setting}
use Rattle.js_tree.specs.Script.{ScriptTree}
use Rattle.js_code.specs.Parts as list
use Rattle.js_code.specs.Parts.{Tree, as_stmts, stmt_at, stmts_at}
use Rattle.js_steps.specs.declared.frames.frame.Flow.TheVariants.{Onward}
use Rattle.js_steps.specs.declared.frames.frame.Frame.{Frame}
use Rattle.js_steps.specs.declared.frames.frame.Frame.TheVariants.{Rest}
use Rattle.js_steps.specs.declared.frames.frame.Halt.{Halt}
use Rattle.js_steps.specs.declared.frames.frame.Halt.TheVariants.{NoMemory, Over}
use Rattle.js_steps.specs.declared.frames.frame.Task.{Task}
use Rattle.js_steps.specs.declared.frames.frame.Task.TheVariants.{Execute, Follow, Statements}
use Rattle.js_steps.specs.declared.frames.state.State.{State}
use Rattle.js_steps.specs.Moment.{Moment, Out, flow, stmt_does, stmts_do}
use Rattle.js_steps.specs.PartLaws.{tree_held}
use Rattle.js_steps.specs.Stack.{frame_does, resume, task_does}
use Rattle.js_steps.specs.StackLaws.{resume_push}
use Rattle.js_steps.specs.Stands.{Before, Variables, Stands, Leads, Keeps, Steps, moment}
use Rattle.js_steps.specs.StepLaws.{pushed}
use Rattle.js_steps.specs.FlowLaws.{stmts_are}
use Rattle.js_steps.specs.PopLaws.{stands_popped}

-- one step after the other
pub then_steps : (stack mid new : List Frame) (s s1 s' : State) (t : Task) (r : Result Task Halt) (part : Setting → Moment → Out)
    → Steps stack s mid s1 (Ok t) part → Steps mid s1 new s' r (λ st. task_does st t) → Steps stack s new s' r part
then_steps stack mid new s s1 s' t r part k next = λ script choices fuel b vs stands.
    let d = k script choices fuel b vs stands in
    subst (λ (o : Out). Keeps script choices fuel b o new s' r) d.is (next script choices fuel b d.variables d.stands)

module _ (script : ScriptTree) (choices : List ℕ) (fuel : ℕ) (b : Before) (vs : Variables) (stack : List Frame) (s : State) (i first rest : ℕ) where
  -- statements are the first one, with the rest on the stack
  rest_is : slice_get s.body.now.code i ≡ Some (list.then first rest) → Stands script fuel vs stack s
      → resume (setting script choices fuel) stack vs.callers (frame_does (setting script choices fuel) (Rest rest) [] (stmt_does (setting script choices fuel) (stmt_at (moment b vs s).trees first) (moment b vs s)))
      ≡ resume (setting script choices fuel) stack vs.callers (stmts_do (setting script choices fuel) (stmts_at (moment b vs s).trees i) (moment b vs s))
  rest_is held stands =
      let st = setting script choices fuel in
      let m = moment b vs s in
      ap (resume st stack vs.callers)
      (sym (stmts_are st m first rest)
      ∙ ap (λ (t : Option Tree). stmts_do st (as_stmts t) m) (sym (tree_held script fuel vs stack s i (list.then first rest) stands held)))

-- the first statement was done: those after it are left
pub rest_left : (stack : List Frame) (s s1 : State) (i first rest : ℕ) → slice_get s.body.now.code i ≡ Some (list.then first rest)
    → ((k : List Frame) → Steps k s k s1 (Ok (Follow Onward)) (λ st m. stmt_does st (stmt_at m.trees first) m))
    → Steps stack s stack s1 (Ok (Statements rest)) (λ st m. stmts_do st (stmts_at m.trees i) m)
rest_left stack s s1 i first rest held did = λ script choices fuel b vs stands.
    let st = setting script choices fuel in
    let p = pushed script choices fuel b vs stack s (Rest rest) (Execute first) tt stands in
    let d = did (stack ++ Rest rest ∷ []) script choices fuel b p.variables p.stands in
    record {
      variables = d.variables;
      stands = stands_popped script fuel d.variables stack s1 (Rest rest) tt d.stands;
      is =
          sym (resume_push st stack (Rest rest) d.variables.callers (task_does st (Follow Onward) (moment b d.variables s1)) tt)
          ∙ d.is ∙ p.is ∙ rest_is script choices fuel b vs stack s i first rest held stands;
    }

-- the first statement stops
pub rest_stops : (stack : List Frame) (s s1 : State) (x : Halt) (i first rest : ℕ) → slice_get s.body.now.code i ≡ Some (list.then first rest)
    → ((k : List Frame) → Steps k s k s1 (Err x) (λ st m. stmt_does st (stmt_at m.trees first) m))
    → Steps stack s stack s1 (Err x) (λ st m. stmts_do st (stmts_at m.trees i) m)
rest_stops stack s s1 NoMemory i first rest held stops = λ script choices fuel b vs stands. tt
rest_stops stack s s1 (Over e) i first rest held stops = λ script choices fuel b vs stands.
    let p = pushed script choices fuel b vs stack s (Rest rest) (Execute first) tt stands in
    let d = stops (stack ++ Rest rest ∷ []) script choices fuel b p.variables p.stands in
    (d.0, d.1 ∙ p.is ∙ rest_is script choices fuel b vs stack s i first rest held stands)
