use Rattle.std.proofs.Common.{◌≡◌, ◌∙◌, ◌∷◌, ◌++◌, [], refl, ap, arith, get_or, ℤ}
use Rattle.std.specs.Prelude.{pos}
use Rattle.std.specs.Int.{w128}
use Rattle.std.proofs.lemmas.Int.{ints}
use mir.Val.{to_z}
use Rattle.go_values.specs.ValuesSeen.{value_of}
use Rattle.go_values.specs.declared.values.scalar.Scalar.TheVariants.{Whole}
use Rattle.go_values.proofs.Loops.{wholes_step, wholes_end}
use Rattle.go_values.proofs.operators.convert.wholes_of_bytes.Goals as goal

pub bytes-preserved : goal.bytes-preserved
bytes-preserved c =
    let n = get_or c.args.bytes.now c.bytes.i 0 in
    let p : to_z w128 n ≡ pos n = omega (arith, ints, c.type_inv.bytes c.bytes.i) in
    λ ts.
    wholes_step ts _ _ _ c.args.bytes.now c.bytes.i n 0 (omega (arith, c.bytes-test.true)) refl
    (c.in_ok-push.ensures.items ∙ ap (λ (z : ℤ). c.bytes.cells.items ++ Whole z ∷ []) p) (c.bytes.invariant ts)

pub returns : goal.returns
returns c = record {
  value = λ ts.
      ap (value_of ts) (c.in_ok-v.ensures ∙ c.as_slice.ensures.value)
      ∙ wholes_end ts c.bytes.cells.items _ c.args.bytes.now c.bytes.i (omega (arith, c.bytes-test.false)) (c.bytes.invariant ts);
}
