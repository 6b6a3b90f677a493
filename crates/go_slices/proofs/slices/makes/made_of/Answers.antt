use Rattle.std.proofs.Common.{◌∙◌, ap, arith}
use Rattle.std.proofs.lemmas.Bool.{lt-ltb, le-ltb}
use Rattle.go_type.specs.Table.{places}
use Rattle.go_core.specs.StepMemory.{repeated}
use Rattle.go_values.specs.ValuesSeen.{memory_of}
use Rattle.go_values.proofs.Steps.{goes}
use Rattle.go_slices.proofs.Steps.{stops, if_true, if_false, made}
use Rattle.go_slices.proofs.slices.makes.made_of.Goals as goal

pub returns-then-capacity-length : goal.returns-then-capacity-length
returns-then-capacity-length c = record { value = stops c.too_big.result _ _ (if_true _ _ _ (lt-ltb c.args.capacity c.args.length (omega (arith, c.if-capacity-length.true)))) c.too_big.ensures.value }

pub returns : goal.returns
returns c =
    let ts = places c.args.c.now.table.now in
    let s = memory_of ts c.args.m.now in
    let cells = c.in_ok-cells.ensures.value ts ∙ ap (repeated c.args.capacity) c.in_ok-zeros.ensures.value in
    record {
      value =
          goes ts s c.fresh_slice.result _ _
          (if_false _ _ _ (le-ltb c.args.capacity c.args.length (omega (arith, c.if-capacity-length.false))) ∙ made _ _ _ s _ _ cells c.in_ok-units.ensures.value)
          (c.fresh_slice.ensures.value ts);
    }
