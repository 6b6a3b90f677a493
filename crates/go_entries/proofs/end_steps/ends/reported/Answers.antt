use Rattle.std.proofs.Common.{◌∙◌, [], sym, ap, ℕ, List}
use Rattle.std.specs.Prelude.{Option, option_map, Some}
use Rattle.std.specs.Borrow.{Bor}
use Rattle.go_core.specs.Goroutine.{moved, with_memory}
use Rattle.go_values.specs.ValuesSeen.{values_of, memory_of}
use Rattle.go_state.specs.StateSeen.{frame_of, stacked}
use Rattle.go_state.specs.declared.state.state.End.TheVariants as end
use Rattle.go_entries.proofs.FrameLemmas.{left_with}
use Rattle.go_entries.proofs.TextLemmas.{reported_by, tells}
use Rattle.go_entries.proofs.end_steps.ends.reported.Goals as goal

pub returns-in-Some : goal.returns-in-Some
returns-in-Some c = record {
  value = λ p ts m.
      let vs = values_of ts c.args.xs.now in
      let text = ap (λ (o : Option (Bor (List ℕ))). option_map (λ (b : Bor (List ℕ)). b.now) o) (sym c.in-Some.is) ∙ c.told.ensures.value ts in
      left_with ts (Some (end.Panicked c.in-Some.bytes)) c.clear.new.self.items m _ [] (ap (stacked (frame_of ts)) c.clear.ensures.items)
      (λ g s.
      reported_by p g (with_memory (memory_of ts m) s) vs
      ∙ ap (λ (o : Option (List ℕ)). tells o (moved g [] 1 (with_memory (memory_of ts m) s))) (sym text));
}

pub returns-in-None : goal.returns-in-None
returns-in-None c = record {
  value = λ p ts m g s.
      let vs = values_of ts c.args.xs.now in
      let text = ap (λ (o : Option (Bor (List ℕ))). option_map (λ (b : Bor (List ℕ)). b.now) o) (sym c.in-None.is) ∙ c.told.ensures.value ts in
      reported_by p g (with_memory (memory_of ts m) s) vs
      ∙ ap (λ (o : Option (List ℕ)). tells o (moved g [] 1 (with_memory (memory_of ts m) s))) (sym text);
}
