-- Steps that change nothing but what is done next, and the stack.
use Rattle.std.proofs.Common.{◌≡◌, refl, ap, sym, ◌∙◌, ℕ, List, [], ◌∷◌, ◌++◌}
use Rattle.std.specs.Prelude.{Err}
use Rattle.js_tree.specs.Script.{ScriptTree}
use Rattle.js_tree.specs.Value.{over}
use Rattle.js_tree.specs.Evaluate.{setting}
use Rattle.js_steps.specs.declared.frames.frame.Frame.{Frame}
use Rattle.js_steps.specs.declared.frames.frame.Halt.TheVariants.{Over}
use Rattle.js_steps.specs.declared.frames.frame.End.{End}
use Rattle.js_steps.specs.declared.frames.frame.Task.{Task}
use Rattle.js_steps.specs.declared.frames.state.State.{State}
use Rattle.js_steps.specs.Moment.{Out}
use Rattle.js_steps.specs.Stack.{IsNoCall, end_of, frame_does, resume, task_does}
use Rattle.js_steps.specs.Stands.{Before, Variables, Stands, Leads, Keeps, moment, world_of}
use Rattle.js_steps.specs.StackLaws.{resume_push, callers_push, resume_over}

module _ (script : ScriptTree) (choices : List ℕ) (fuel : ℕ) (b : Before) (vs : Variables) where
  -- what is done next is what was left
  pub goes : (stack : List Frame) (s : State) (t : Task) → Stands script fuel vs stack s
      → Leads script choices fuel b (resume (setting script choices fuel) stack vs.callers (task_does (setting script choices fuel) t (moment b vs s))) stack s t
  goes stack s t h = record { variables = vs; stands = h; is = refl }

  -- the same, said otherwise
  pub goes_as : (stack : List Frame) (s : State) (t : Task) (o : Out) → task_does (setting script choices fuel) t (moment b vs s) ≡ o → Stands script fuel vs stack s
      → Leads script choices fuel b (resume (setting script choices fuel) stack vs.callers o) stack s t
  goes_as stack s t o e h = record { variables = vs; stands = h; is = ap (resume (setting script choices fuel) stack vs.callers) e }

  -- the same with a frame more
  pub pushed : (stack : List Frame) (s : State) (f : Frame) (t : Task) → IsNoCall f → Stands script fuel vs stack s
      → Leads script choices fuel b (resume (setting script choices fuel) stack vs.callers (frame_does (setting script choices fuel) f [] (task_does (setting script choices fuel) t (moment b vs s)))) (stack ++ f ∷ []) s t
  pushed stack s f t n h = record {
    variables = vs;
    stands = record { body = h.body; locals = h.locals; globals = h.globals; only = h.only; callers = callers_push script stack f vs.callers n h.callers; few = h.few };
    is = resume_push (setting script choices fuel) stack f vs.callers (task_does (setting script choices fuel) t (moment b vs s)) n;
  }

  -- the run is over
  pub stops : (stack : List Frame) (s : State) (e : End) (o : Out) → o ≡ over (end_of e) (world_of b vs s)
      → Keeps script choices fuel b (resume (setting script choices fuel) stack vs.callers o) stack s (Err (Over e))
  stops stack s e o h =
      (vs, sym (ap (resume (setting script choices fuel) stack vs.callers) h ∙ resume_over (setting script choices fuel) stack vs.callers (end_of e) (world_of b vs s)))
