use Rattle.std.proofs.Common.{◌≡◌, ◌∙◌, sym, ap, arith, get_or, ℕ, ℤ}
use Rattle.std.specs.Prelude.{pos, Option}
use Rattle.std.specs.Int.{w128}
use Rattle.std.proofs.lemmas.Int.{ints}
use Rattle.std.proofs.lemmas.Option.{slice_get-get_or, slice_get_past}
use mir.Val.{to_z}
use Rattle.go_core.specs.Did.{value_of}
use Rattle.go_core.specs.Memory as core
use Rattle.go_core.specs.StepMemory.{byte_or_none}
use Rattle.go_values.proofs.ScalarLemmas.{whole_seen}
use Rattle.go_values.proofs.Steps.{goes}
use Rattle.go_values.proofs.operators.places.byte_or_none.Goals as goal

pub returns-then-k-bytes : goal.returns-then-k-bytes
returns-then-k-bytes c =
    let bytes = c.args.bytes.now in
    let b = get_or bytes c.args.k 0 in
    let p : to_z w128 b ≡ pos b = omega (arith, ints, c.type_inv.bytes c.args.k) in
    record {
      value = λ ts m.
          goes ts m c.gives_one.result _ _
          (ap (λ (o : Option ℕ). byte_or_none m o) (slice_get-get_or bytes c.args.k 0 (omega (arith, c.if-k-bytes.true)))
          ∙ ap (λ (x : core.Scalar). value_of m x 0) (sym (whole_seen ts (to_z w128 b) ∙ ap (λ (z : ℤ). core.whole z) p)))
          (c.gives_one.ensures.value ts m);
    }

pub returns-else-k-bytes : goal.returns-else-k-bytes
returns-else-k-bytes c = record { value = λ ts m. ap (λ (o : Option ℕ). byte_or_none m o) (slice_get_past c.args.bytes.now c.args.k (omega (arith, c.if-k-bytes.false))) }
