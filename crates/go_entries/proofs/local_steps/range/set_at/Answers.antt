use Rattle.std.proofs.Common.{ap, sym, ◌∙◌, ℕ}
use Rattle.std.specs.Prelude.{Option, Some, option_and_then}
use Rattle.go_core.specs.Memory as core
use Rattle.go_core.specs.Memory.{with_written}
use Rattle.go_values.specs.ValuesSeen.{value_of, memory_of}
use Rattle.go_entries.proofs.local_steps.range.set_at.Goals as goal

pub returns-in-Some : goal.returns-in-Some
returns-in-Some c = record {
  value = λ ts p g.
      let m = memory_of ts c.args.m.now in
      let x = value_of ts c.args.x.now in
      ap (λ (o : Option ℕ). option_and_then (λ b. Some (with_written m b x)) o) (sym c.base_of.ensures.value ∙ c.in-Some.is)
      ∙ ap (λ (w : core.Memory). Some w) (sym (c.write_value.ensures.value ts));
}

pub returns-in-None : goal.returns-in-None
returns-in-None c = record {
  value = λ ts p g.
      let m = memory_of ts c.args.m.now in
      let x = value_of ts c.args.x.now in
      ap (λ (o : Option ℕ). option_and_then (λ b. Some (with_written m b x)) o) (sym c.base_of.ensures.value ∙ c.in-None.is);
}
