use Rattle.std.proofs.Common.{◌∙◌, ◌∷◌, sym, ap, arith, List}
use Rattle.std.specs.Prelude.{Some}
use Rattle.std.proofs.lemmas.List.{length-map}
use Rattle.go_core.specs.Goroutine as defined
use Rattle.go_core.specs.Goroutine.{moved, with_memory}
use Rattle.go_core.specs.Panics as defining
use Rattle.go_values.proofs.Only.{only}
use Rattle.go_values.specs.ValuesSeen.{scalar_of, value_of, memory_of}
use Rattle.go_values.specs.declared.values.scalar.Scalar.{Scalar}
use Rattle.go_state.specs.StateSeen.{frame_of}
use Rattle.go_entries.proofs.CallStepsStepLemmas.{not_one_raised}
use Rattle.go_entries.proofs.call_steps.panics.raised.Goals as goal

pub returns-in-len1 : goal.returns-in-len1
returns-in-len1 c =
    let e = only c.args.cells.now c.x-item.result c.in-len1.len_at_least c.in-len1.len_below c.x-item.is in
    record {
      value = λ p ts m g below s.
          let s0 = with_memory (memory_of ts m) s in
          ap (λ (xs : List Scalar). defining.raised p g below s0 (value_of ts xs) (frame_of ts c.args.f.now)) e
          ∙ ap (λ (y : defined.Frame). Some (moved g (y ∷ below) 2 s0)) (sym (c.to_panicking.ensures.value ts));
    }

pub returns-in_default : goal.returns-in_default
returns-in_default c = record {
  value = λ p ts m g below s.
      not_one_raised p g below (with_memory (memory_of ts m) s) (frame_of ts c.args.f.now) (value_of ts c.args.cells.now) (λ e.
      let n = length-map c.args.cells.now (scalar_of ts) in omega (arith, e, n, c.in_default.len_below));
}
