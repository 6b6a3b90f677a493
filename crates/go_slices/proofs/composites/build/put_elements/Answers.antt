use Rattle.std.proofs.Common.{◌∙◌, ◌*◌, refl, ap, arith, get_or, ℕ, List}
use Rattle.std.specs.Borrow.{Bor}
use Rattle.std.proofs.lemmas.List.{length-map, drop_more}
use Rattle.go_core.specs.Memory.{written}
use Rattle.go_values.specs.ValuesSeen.{value_of, values_of}
use Rattle.go_values.specs.declared.values.scalar.Scalar.{Scalar}
use Rattle.go_slices.proofs.MapsListLemmas.{split_map}
use Rattle.go_slices.proofs.SlicesListLemmas.{nothing}
use Rattle.go_slices.proofs.PartLemmas.{parts_step, parts_out, parts_end}
use Rattle.go_slices.proofs.composites.build.put_elements.Goals as goal

pub elements-preserved : goal.elements-preserved
elements-preserved c =
    let is = c.args.indexes.now in
    let vs = c.args.vs.now in
    let i = c.elements.i in
    let v = get_or vs i nothing in
    λ ts.
    parts_step (λ (j : ℕ). j * c.args.one_size) is (values_of ts vs) i (get_or is i 0) (value_of ts v.now) _ _ _ (drop_more is i 0 (omega (arith, c.elements-test.true)))
    (split_map (λ (x : Bor (List Scalar)). value_of ts x.now) vs i v nothing (omega (arith, c.if-i-vs.false)) refl)
    (c.write_cells.ensures.value ts ∙ ap (λ (n : ℕ). written (value_of ts c.elements.cells) n (value_of ts v.now)) c.in_ok-offset.ensures.value) (c.elements.invariant ts)

pub returns-then-i-vs : goal.returns-then-i-vs
returns-then-i-vs c =
    record {
      value = λ ts.
          let seen = λ (x : Bor (List Scalar)). value_of ts x.now in
          parts_out (λ (j : ℕ). j * c.args.one_size) c.args.indexes.now (values_of ts c.args.vs.now) c.elements.i (value_of ts c.elements.cells) _ (omega (arith, c.if-i-vs.true, length-map c.args.vs.now seen)) (c.elements.invariant ts);
    }

pub returns : goal.returns
returns c =
    record { value = λ ts. parts_end (λ (j : ℕ). j * c.args.one_size) c.args.indexes.now (values_of ts c.args.vs.now) c.elements.i (value_of ts c.elements.cells) _ (omega (arith, c.elements-test.false)) (c.elements.invariant ts) }
