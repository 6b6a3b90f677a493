use Rattle.std.proofs.Common.{◌≡◌, ◌∙◌, ◌∷◌, ◌++◌, [], refl, ap, arith, get_or, ℤ}
use Rattle.std.specs.Prelude.{pos}
use Rattle.std.specs.Int.{w128}
use Rattle.std.proofs.lemmas.Int.{ints}
use mir.Val.{to_z}
use Rattle.go_values.specs.ValuesSeen.{value_of}
use Rattle.go_values.specs.declared.values.scalar.Scalar.TheVariants.{Whole}
use Rattle.go_values.proofs.Loops.{wholes_step, wholes_end}
use Rattle.go_values.proofs.operators.convert.wholes_of_codes.Goals as goal

pub codes-preserved : goal.codes-preserved
codes-preserved c =
    let n = get_or c.args.codes.now c.codes.i 0 in
    let p : to_z w128 n ≡ pos n = omega (arith, ints, c.type_inv.codes c.codes.i) in
    λ ts.
    wholes_step ts _ _ _ c.args.codes.now c.codes.i n 0 (omega (arith, c.codes-test.true)) refl
    (c.in_ok-push.ensures.items ∙ ap (λ (z : ℤ). c.codes.cells.items ++ Whole z ∷ []) p) (c.codes.invariant ts)

pub returns : goal.returns
returns c = record {
  value = λ ts.
      ap (value_of ts) (c.in_ok-v.ensures ∙ c.as_slice.ensures.value)
      ∙ wholes_end ts c.codes.cells.items _ c.args.codes.now c.codes.i (omega (arith, c.codes-test.false)) (c.codes.invariant ts);
}
