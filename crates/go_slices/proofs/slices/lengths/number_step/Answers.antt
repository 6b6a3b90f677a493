use Rattle.std.proofs.Common.{◌≡◌, ◌∙◌, sym, ap, arith, ℤ}
use Rattle.std.specs.Prelude.{pos}
use Rattle.std.specs.Int.{w128}
use Rattle.std.proofs.lemmas.Int.{ints}
use mir.Val.{to_z}
use Rattle.go_core.specs.Did.{value_of}
use Rattle.go_core.specs.Memory as core
use Rattle.go_values.proofs.ScalarLemmas.{whole_seen}
use Rattle.go_values.proofs.Steps.{goes}
use Rattle.go_slices.proofs.slices.lengths.number_step.Goals as goal

pub returns : goal.returns
returns c =
    let p : to_z w128 c.args.n ≡ pos c.args.n = omega (arith, ints, c.ranges.n) in
    record {
      value = λ ts m.
          goes ts m c.gives_one.result _ _
          (ap (λ (x : core.Scalar). value_of m x 0) (sym (whole_seen ts (to_z w128 c.args.n) ∙ ap (λ (z : ℤ). core.whole z) p)))
          (c.gives_one.ensures.value ts m);
    }
