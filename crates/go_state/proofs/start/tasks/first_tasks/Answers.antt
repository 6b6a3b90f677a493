use Rattle.std.proofs.Common.{◌≡◌, ◌∙◌, ◌∷◌, ◌-◌, ◌+◌, [], refl, sym, ap, arith, drop, length, ◌<◌, map, List, ℕ}
use Rattle.std.proofs.lemmas.List.{drop_all, length-map}
use Rattle.go_type.specs.Table.{places}
use Rattle.go_core.specs.CoreTree as core
use Rattle.go_core.specs.CoreView.{init_step_view, program_view}
use Rattle.go_core.specs.Goroutine as defined
use Rattle.go_core.specs.Run.{init_tasks}
use Rattle.go_state.specs.StateSeen.{tasks_of}
use Rattle.go_state.specs.declared.state.frame.Todo.{Todo}
use Rattle.go_state.proofs.TodoLemmas.{tasks_popped}
use Rattle.go_state.proofs.StartLemmas.{split_map, init_step}
use Rattle.go_state.proofs.start.tasks.first_tasks.Goals as goal

pub steps-init : goal.steps-init
steps-init c =
    let q = program_view c.args.p.now in
    let ts = places c.args.p.now.types in
    let order = map init_step_view c.args.order.now.items.items in
    let counted = c.args.order.now.items.ok.0 in
    let later = defined.call_with (defined.the_function q.main) 0 ∷ defined.finish ∷ [] in
    let past = drop_all (c.len-count.result - 0) order (omega (arith, counted, c.len-count.ensures, length-map c.args.order.now.items.items init_step_view)) in
    tasks_popped (λ (z : List defined.Task). z) ts _ _ _ c.in_ok-push-2.ensures.items
    ∙ tasks_popped (λ (z : List defined.Task). defined.call_with (defined.the_function q.main) 0 ∷ z) ts _ _ _ c.in_ok-push.ensures.items
    ∙ ap (λ (xs : List Todo). defined.call_with (defined.the_function q.main) 0 ∷ defined.finish ∷ tasks_of ts xs) c.new-tasks.ensures.items
    ∙ sym (ap (λ (ss : List core.InitStep). init_tasks q ss later) past)

pub steps-preserved : goal.steps-preserved
steps-preserved c =
    let q = program_view c.args.p.now in
    let ts = places c.args.p.now.types in
    let items = c.args.order.now.items.items in
    let order = map init_step_view items in
    let counted = c.args.order.now.items.ok.0 in
    let n = c.len-count.result - c.steps.i in
    let k = c.len-count.result - 1 - c.steps.i in
    let x = c.index.result.now in
    let later = defined.call_with (defined.the_function q.main) 0 ∷ defined.finish ∷ [] in
    let below : k < length items = omega (arith, counted, c.len-count.ensures, c.steps-test.true) in
    let next : k ≡ c.len-count.result - (c.steps.i + 1) = omega arith in
    init_step q order n k (init_step_view x) (tasks_of ts c.steps.tasks.items) _ later (omega (arith, c.steps-test.true)) (split_map init_step_view items k x x below c.index.ensures)
    (c.in_ok-initialised.ensures.value _ refl) c.steps.invariant
    ∙ ap (λ (m : ℕ). init_tasks q (drop m order) later) next

pub returns : goal.returns
returns c =
    let q = program_view c.args.p.now in
    let order = map init_step_view c.args.order.now.items.items in
    let later = defined.call_with (defined.the_function q.main) 0 ∷ defined.finish ∷ [] in
    let none : c.len-count.result - c.steps.i ≡ 0 = omega (arith, c.steps-test.false) in
    record { value = c.steps.invariant ∙ ap (λ (m : ℕ). init_tasks q (drop m order) later) none }
