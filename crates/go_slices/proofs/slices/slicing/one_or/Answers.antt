use Rattle.std.proofs.Common.{◌≡◌, ◌∙◌, sym, ap, subst, arith, Bool, ℤ}
use Rattle.std.specs.Prelude.{pos}
use Rattle.std.specs.Int.{w128}
use Rattle.std.proofs.lemmas.Int.{ints}
use mir.Val.{to_z}
use Rattle.go_core.specs.StepSlices.{one_or}
use Rattle.go_values.specs.ValuesSeen.{values_of}
use Rattle.go_slices.specs.SlicesFound.{BoundFound}
use Rattle.go_slices.proofs.slices.slicing.one_or.Goals as goal

pub returns-then-is_written : goal.returns-then-is_written
returns-then-is_written c = record {
  value = λ ts. subst (λ (b : Bool). BoundFound ts c.first_bound.result (one_or b (values_of ts c.args.vs.now) (pos c.args.default))) (sym c.if-is_written.true) (c.first_bound.ensures.value ts (pos c.args.default));
}

pub returns-else-is_written : goal.returns-else-is_written
returns-else-is_written c =
    let p : pos c.args.default ≡ to_z w128 c.args.default = omega (arith, ints, c.ranges.default) in
    record {
      value = λ ts f.
          ap (λ (b : Bool). one_or b (values_of ts c.args.vs.now) (pos c.args.default) f) c.if-is_written.false
          ∙ ap (λ (z : ℤ). f z (values_of ts c.args.vs.now)) p;
    }
