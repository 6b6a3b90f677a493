use Rattle.std.proofs.Common.{◌∙◌, ◌∷◌, [], sym, ap, ℕ}
use Rattle.go_core.specs.Did.{gives}
use Rattle.go_core.specs.Memory as core
use Rattle.go_core.specs.Memory.{Value, with_fresh}
use Rattle.go_values.specs.ValuesSeen.{value_of, memory_of}
use Rattle.go_values.proofs.ScalarLemmas.{slice_seen}
use Rattle.go_slices.proofs.slices.fresh.fresh_slice.Goals as goal

pub returns : goal.returns
returns c = record {
  value = λ ts.
      let s = memory_of ts c.args.m.now in
      let slice =
      c.in_ok-slice.ensures.value ts
      ∙ ap (λ (x : core.Scalar). x ∷ []) (slice_seen ts c.next_base-base.result c.args.length c.args.capacity ∙ ap (λ (n : ℕ). core.slice n c.args.length c.args.capacity) (c.next_base-base.ensures.value ts)) in
      sym (c.gives_fresh.ensures.value ts s ∙ ap (λ (v : Value). gives (v ∷ []) (with_fresh s (value_of ts c.args.cells.now)) c.args.units) slice);
}
