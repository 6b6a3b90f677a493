use Rattle.std.proofs.Common.{◌≡◌, ◌-◌, ◌∷◌, [], drop, map}
use Rattle.go_type.specs.Table.{places}
use Rattle.go_core.specs.CoreView.{init_step_view, program_view}
use Rattle.go_core.specs.Goroutine as defined
use Rattle.go_core.specs.Run.{init_tasks}
use Rattle.go_state.specs.StateSeen.{tasks_of}
use Rattle.go_state.proofs.start.tasks.first_tasks.Given as goal

abbrev pub invariant-steps : goal.invariant-steps
invariant-steps l =
    let q = program_view l.p in
    tasks_of (places l.p.types) l.tasks.items
    ≡ init_tasks q (drop (l.count - l.i) (map init_step_view l.order.items.items)) (defined.call_with (defined.the_function q.main) 0 ∷ defined.finish ∷ [])
