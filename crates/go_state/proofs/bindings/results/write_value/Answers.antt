use Rattle.std.proofs.Common.{◌≡◌, ◌∙◌, ap, arith, length, List}
use Rattle.go_core.specs.Memory.{Value, written}
use Rattle.go_values.specs.ValuesSeen.{value_of, memory_of}
use Rattle.go_values.specs.declared.values.scalar.Scalar.{Scalar}
use Rattle.go_state.proofs.ResultLemmas.{refilled}
use Rattle.go_state.proofs.bindings.results.write_value.Goals as goal

pub returns : goal.returns
returns c =
    let xs = c.write_cells.new.cells in
    let old = c.args.m.now.cells.items in
    let n : length old ≡ c.args.m.now.cells.len = omega (arith, ap length c.as_mut_slice.ensures.value, c.as_mut_slice.ensures.len) in
    let k : length xs ≡ c.args.m.now.cells.len = omega (arith, ap length c.as_mut_slice.ensures.value, c.as_mut_slice.ensures.len, c.write_cells.auto.cells) in
    record {
      value = λ ts.
          ap (λ (ys : List Scalar). record (memory_of ts c.args.m.now) { cells = value_of ts ys }) (refilled c.args.m.now.cells.len xs old k n)
          ∙ ap (λ (ys : Value). record (memory_of ts c.args.m.now) { cells = ys })
          (c.write_cells.ensures.value ts ∙ ap (λ (ys : List Scalar). written (value_of ts ys) c.args.base (value_of ts c.args.x.now)) c.as_mut_slice.ensures.value);
    }
