use Rattle.std.proofs.Common.{◌∙◌, ◌∷◌, [], sym, ap, List}
use Rattle.std.specs.Prelude.{slice_get}
use Rattle.go_type.specs.Table.{places}
use Rattle.go_core.specs.CoreView.{init_step_view, program_view}
use Rattle.go_core.specs.Goroutine as defined
use Rattle.go_core.specs.Run as running
use Rattle.go_core.specs.declared.program.InitStep.{InitStep}
use Rattle.go_state.proofs.TodoLemmas.{tasks_popped}
use Rattle.go_state.proofs.StartLemmas.{on_ok}
use Rattle.go_state.proofs.start.tasks.initialised.Goals as goal

pub returns-in-Initialise : goal.returns-in-Initialise
returns-in-Initialise c =
    let q = program_view c.args.p.now in
    record {
      value = on_ok c.initialise.result (λ h later e.
          h
          ∙ ap (λ (z : List defined.Task). running.initialised_at q (slice_get q.globals c.in-Initialise.number) z) e
          ∙ sym (ap (λ (s : InitStep). running.init_tasks q (init_step_view s ∷ []) later) c.in-Initialise.is)) c.initialise.ensures.value;
    }

pub returns-in_ok-push-in-Call : goal.returns-in_ok-push-in-Call
returns-in_ok-push-in-Call c =
    let q = program_view c.args.p.now in
    let ts = places c.args.p.now.types in
    record {
      value = λ later e.
          tasks_popped (λ (z : List defined.Task). z) ts _ _ _ c.in_ok-push-in-Call.ensures.items
          ∙ ap (λ (z : List defined.Task). defined.call_with (defined.the_function c.in-Call.func.0) 0 ∷ z) e
          ∙ sym (ap (λ (s : InitStep). running.init_tasks q (init_step_view s ∷ []) later) c.in-Call.is);
    }
