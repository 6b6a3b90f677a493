use Rattle.std.proofs.Common.{◌∙◌, refl, ap, arith, get_or, ℕ, List}
use Rattle.std.specs.Borrow.{Bor}
use Rattle.std.proofs.lemmas.List.{length-map, drop_more}
use Rattle.go_type.specs.Levels.{tree_of}
use Rattle.go_type.specs.Table.{places, names}
use Rattle.go_core.specs.Layout.{shape_of}
use Rattle.go_core.specs.Memory.{written}
use Rattle.go_core.specs.StepMemory.{part_offset}
use Rattle.go_values.specs.ValuesSeen.{value_of, values_of}
use Rattle.go_values.specs.declared.values.scalar.Scalar.{Scalar}
use Rattle.go_slices.proofs.MapsListLemmas.{split_map}
use Rattle.go_slices.proofs.SlicesListLemmas.{nothing}
use Rattle.go_slices.proofs.PartLemmas.{parts_step, parts_out, parts_end}
use Rattle.go_slices.proofs.composites.build.put_parts.Goals as goal

pub parts-preserved : goal.parts-preserved
parts-preserved c =
    let w = c.args.c.now.table.now in
    let ts = places w in
    let f = part_offset (shape_of (names w) (tree_of ts c.args.t)) in
    let is = c.args.indexes.now in
    let vs = c.args.vs.now in
    let i = c.parts.i in
    let v = get_or vs i nothing in
    parts_step f is (values_of ts vs) i (get_or is i 0) (value_of ts v.now) _ _ _ (drop_more is i 0 (omega (arith, c.parts-test.true)))
    (split_map (λ (x : Bor (List Scalar)). value_of ts x.now) vs i v nothing (omega (arith, c.if-i-vs.false)) refl)
    (c.write_cells.ensures.value ts ∙ ap (λ (n : ℕ). written (value_of ts c.parts.cells) n (value_of ts v.now)) c.in_ok-offset.ensures.value) c.parts.invariant

pub returns-then-i-vs : goal.returns-then-i-vs
returns-then-i-vs c =
    let w = c.args.c.now.table.now in
    let ts = places w in
    let f = part_offset (shape_of (names w) (tree_of ts c.args.t)) in
    let seen = λ (x : Bor (List Scalar)). value_of ts x.now in
    record {
      value = parts_out f c.args.indexes.now (values_of ts c.args.vs.now) c.parts.i (value_of ts c.parts.cells) _ (omega (arith, c.if-i-vs.true, length-map c.args.vs.now seen)) c.parts.invariant;
    }

pub returns : goal.returns
returns c =
    let w = c.args.c.now.table.now in
    let ts = places w in
    let f = part_offset (shape_of (names w) (tree_of ts c.args.t)) in
    record { value = parts_end f c.args.indexes.now (values_of ts c.args.vs.now) c.parts.i (value_of ts c.parts.cells) _ (omega (arith, c.parts-test.false)) c.parts.invariant }
