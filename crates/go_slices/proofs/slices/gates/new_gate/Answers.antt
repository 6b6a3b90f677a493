use Rattle.std.proofs.Common.{◌∙◌, ◌∷◌, [], sym, ap, ℕ}
use Rattle.go_core.specs.Did.{gives}
use Rattle.go_core.specs.Memory as core
use Rattle.go_core.specs.Memory.{Value, with_fresh, with_written}
use Rattle.go_values.specs.ValuesSeen.{value_of, memory_of}
use Rattle.go_values.proofs.ScalarLemmas.{pointer_seen, whole_seen}
use Rattle.go_slices.proofs.slices.gates.new_gate.Goals as goal

pub returns : goal.returns
returns c = record {
  value = λ ts.
      let s = memory_of ts c.args.m.now in
      let base = c.args.base in
      let cell = c.in_ok-cell.ensures.value ts ∙ ap (λ (x : core.Scalar). x ∷ []) (pointer_seen ts c.next_base.result ∙ ap (λ (n : ℕ). core.pointer n) (c.next_base.ensures.value ts)) in
      let fresh = c.in_ok-fresh.ensures.value ts ∙ ap (λ (x : core.Scalar). x ∷ []) (whole_seen ts _) in
      sym (ap (λ (v : Value). gives (v ∷ []) (with_fresh (with_written s base v) (value_of ts c.in_ok-fresh.fresh.now)) 1) cell
      ∙ ap (λ (v : Value). gives ((core.pointer (core.next_base s) ∷ []) ∷ []) (with_fresh (with_written s base (core.pointer (core.next_base s) ∷ [])) v) 1) fresh);
}
