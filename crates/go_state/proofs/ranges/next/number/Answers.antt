use Rattle.std.proofs.Common.{◌≡◌, ◌∙◌, ◌∷◌, [], ap, arith, ℤ}
use Rattle.std.specs.Prelude.{pos}
use Rattle.std.specs.Int.{w128}
use Rattle.std.proofs.lemmas.Int.{ints}
use Rattle.std.proofs.lemmas.Result.{IfOk-weaker}
use mir.Val.{to_z}
use Rattle.go_core.specs.Memory as core
use Rattle.go_values.proofs.ScalarLemmas.{whole_seen}
use Rattle.go_state.proofs.ranges.next.number.Goals as goal

pub returns : goal.returns
returns c =
    let z : to_z w128 c.args.n ≡ pos c.args.n = omega (arith, ints, c.ranges.n) in
    record {
      value = IfOk-weaker c.alone.result _ _ (λ v h. λ ts p g.
          h ts ∙ ap (λ (x : core.Scalar). x ∷ []) (whole_seen ts (to_z w128 c.args.n) ∙ ap (λ (k : ℤ). core.whole k) z)) c.alone.ensures.value;
    }
