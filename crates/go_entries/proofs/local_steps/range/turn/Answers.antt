use Rattle.std.proofs.Common.{ap, sym, ◌∙◌, ◌∷◌, ◌+◌, ℕ, List}
use Rattle.std.specs.Prelude.{Option, Some, option_and_then}
use Rattle.go_type.specs.Table.{places}
use Rattle.go_core.specs.Control as control
use Rattle.go_core.specs.Goroutine as defined
use Rattle.go_core.specs.Goroutine.{moved, with_memory}
use Rattle.go_core.specs.Memory as core
use Rattle.go_core.specs.CoreTree.{Stmts}
use Rattle.go_core.specs.Opened.{all_opened}
use Rattle.go_state.specs.TasksSeen.{first_of}
use Rattle.go_state.specs.declared.tasks.task.Task.TheVariants as held
use Rattle.go_values.specs.ValuesSeen.{value_of, memory_of}
use Rattle.go_state.proofs.ListsLemmas.{stmts_whole}
use Rattle.go_state.specs.StateSeen.{frame_of, places_of, ranged_of, cursor_of}
use Rattle.go_state.specs.declared.state.frame.Place.{Place}
use Rattle.go_entries.proofs.LocalStepsStepLemmas.{written_none}
use Rattle.go_entries.proofs.local_steps.range.turn.Goals as goal

pub returns-in_err-set_var : goal.returns-in_err-set_var
returns-in_err-set_var c = record {
  value = λ p q.
      let ts = places c.args.c.now.table.now in
      let r = ranged_of ts c.args.range in
      let key = value_of ts c.args.next.key.now in
      let value = value_of ts c.args.next.value.now in
      let at = cursor_of ts c.args.next.cursor in
      let m = memory_of ts c.args.m.now in
      let f = frame_of ts c.args.f.now in
      written_none p ts c.from_residual.result c.in_err-set_var.field-0.0 (λ g. control.var_written p g r.key key (places_of c.as_slice.result.now) m) c.set_var.new.m
      c.args.f.now c.args.f.now c.args.m.now c.set_var.new.m (λ g. control.range_on p g (control.next key value at) r) c.from_residual.ensures.1
      (λ g below s e.
      ap (λ (o : Option core.Memory). control.range_turn p g (option_and_then (control.var_written p g r.value value f.places) o) r at f below (with_memory m s))
      (ap (λ (ps : List Place). control.var_written p g r.key key (places_of ps) m) (sym c.as_slice.ensures.value) ∙ e))
      (λ g. c.in_err-set_var.ensures.value ts p g);
}

pub returns-in_err-set_var-2 : goal.returns-in_err-set_var-2
returns-in_err-set_var-2 c = record {
  value = λ p q.
      let ts = places c.args.c.now.table.now in
      let r = ranged_of ts c.args.range in
      let key = value_of ts c.args.next.key.now in
      let value = value_of ts c.args.next.value.now in
      let at = cursor_of ts c.args.next.cursor in
      let m = memory_of ts c.args.m.now in
      let f = frame_of ts c.args.f.now in
      written_none p ts c.from_residual-in_err-set_var-2.result c.in_err-set_var-2.field-0.0 (λ g. control.var_written p g r.value value (places_of c.as_slice-2.result.now) (memory_of ts c.set_var.new.m)) c.set_var-2.new.m
      c.args.f.now c.args.f.now c.args.m.now c.set_var-2.new.m (λ g. control.range_on p g (control.next key value at) r) c.from_residual-in_err-set_var-2.ensures.1
      (λ g below s e.
      ap (λ (o : Option core.Memory). control.range_turn p g (option_and_then (control.var_written p g r.value value f.places) o) r at f below (with_memory m s))
      (ap (λ (ps : List Place). control.var_written p g r.key key (places_of ps) m) (sym c.as_slice.ensures.value) ∙ c.in_ok-set_var.ensures.value ts p g)
      ∙ ap (λ (o : Option core.Memory). control.range_turn p g o r at f below (with_memory m s))
      (ap (λ (ps : List Place). control.var_written p g r.value value (places_of ps) (memory_of ts c.set_var.new.m)) (sym c.as_slice-2.ensures.value) ∙ e))
      (λ g. c.in_err-set_var-2.ensures.value ts p g);
}

pub returns : goal.returns
returns c = record {
  value = λ p q g below s.
      let ts = places c.args.c.now.table.now in
      let r = ranged_of ts c.args.range in
      let key = value_of ts c.args.next.key.now in
      let value = value_of ts c.args.next.value.now in
      let at = cursor_of ts c.args.next.cursor in
      let m = memory_of ts c.args.m.now in
      let m2 = memory_of ts c.set_var-2.new.m in
      let f = frame_of ts c.args.f.now in
      ap (λ (o : Option core.Memory). control.range_turn p g (option_and_then (control.var_written p g r.value value f.places) o) r at f below (with_memory m s))
      (ap (λ (ps : List Place). control.var_written p g r.key key (places_of ps) m) (sym c.as_slice.ensures.value) ∙ c.in_ok-set_var.ensures.value ts p g)
      ∙ ap (λ (o : Option core.Memory). control.range_turn p g o r at f below (with_memory m s))
      (ap (λ (ps : List Place). control.var_written p g r.value value (places_of ps) (memory_of ts c.set_var.new.m)) (sym c.as_slice-2.ensures.value) ∙ c.in_ok-set_var-2.ensures.value ts p g)
      ∙ ap (λ (n : ℕ). Some (with_memory m2 (moved g (control.with_first (λ rest. all_opened r.body (defined.next_range r at ∷ rest)) f ∷ below) (1 + n) s)))
      (ap (λ (k : ℕ). k + control.var_weight p g r.value) (sym (c.in_ok-key.ensures.value p g q)) ∙ ap (λ (k : ℕ). c.in_ok-key.key + k) (sym (c.in_ok-value.ensures.value p g q)) ∙ sym c.in_ok-units.ensures.value)
      ∙ ap (λ (x : defined.Frame). Some (with_memory m2 (moved g (x ∷ below) (1 + c.in_ok-units.units) s)))
      (ap (λ (b : Stmts). record f { tasks = all_opened b (defined.next_range r at ∷ f.tasks) }) (stmts_whole ts c.args.range.body.now)
      ∙ sym (c.in_ok-before-2.ensures.value ts ∙ ap (control.with_first (first_of ts (held.Run c.args.range.body 0))) (c.in_ok-before.ensures.value ts)));
}
