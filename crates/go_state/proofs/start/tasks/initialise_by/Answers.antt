use Rattle.std.proofs.Common.{◌∙◌, ◌∷◌, sym, ap, map, List, ℕ}
use Rattle.std.specs.Prelude.{Option, option_map}
use Rattle.go_core.specs.CoreView.{bound_of, expr_view, package_var_view}
use Rattle.go_core.specs.Goroutine as defined
use Rattle.go_core.specs.Opened.{evaluated}
use Rattle.go_core.specs.Run as running
use Rattle.go_core.specs.declared.node.CoreExpr.{CoreExpr}
use Rattle.go_state.specs.StateSeen.{tasks_of}
use Rattle.go_state.proofs.TodoLemmas.{tasks_popped}
use Rattle.go_state.proofs.start.tasks.initialise_by.Goals as goal

pub returns-in_ok-push-in-Some-2 : goal.returns-in_ok-push-in-Some-2
returns-in_ok-push-in-Some-2 c = record {
  value = λ ts.
      let x = package_var_view ts c.args.holder.now in
      let old = tasks_of ts c.args.tasks.now.items in
      let ns = running.set_with x 0 (map (package_var_view ts) c.args.globals.now) in
      let e = expr_view ts c.in-Some.e in
      tasks_popped (λ (z : List defined.Task). z) ts _ _ _ c.in_ok-push-in-Some-2.ensures.items
      ∙ tasks_popped (evaluated e) ts _ _ _ c.in_ok-push-in-Some.ensures.items
      ∙ ap (λ (ms : List ℕ). evaluated e (defined.set_globals ms ∷ old)) (c.in_ok-numbers-in-Some.ensures.value ts)
      ∙ sym (ap (λ (o : Option CoreExpr). running.initialised (bound_of (option_map (expr_view ts) o)) ns old) c.in-Some.is);
}

pub returns-in-None : goal.returns-in-None
returns-in-None c = record {
  value = λ ts.
      let x = package_var_view ts c.args.holder.now in
      let ns = running.set_with x 0 (map (package_var_view ts) c.args.globals.now) in
      sym (ap (λ (o : Option CoreExpr). running.initialised (bound_of (option_map (expr_view ts) o)) ns (tasks_of ts c.args.tasks.now.items)) c.in-None.is);
}
