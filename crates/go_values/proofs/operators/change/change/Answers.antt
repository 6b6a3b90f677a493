use Rattle.std.proofs.Common.{◌≡◌, ◌∙◌, ◌++◌, sym, ap, arith, length, take, drop, ℕ, List}
use Rattle.std.proofs.lemmas.List.{append-nil, drop_all, take_all}
use Rattle.std.proofs.lemmas.Result.{on_ok_weaker}
use Rattle.go_core.specs.Memory.{Value, written, with_fresh}
use Rattle.go_values.specs.ValuesSeen.{value_of, memory_of}
use Rattle.go_values.specs.declared.values.scalar.Scalar.{Scalar}
use Rattle.go_values.specs.OperatorsSeen.{changed}
use Rattle.go_values.proofs.operators.change.change.Goals as goal

refilled : {A : Type 0} (n : ℕ) (xs ys : List A) → length xs ≡ n → length ys ≡ n → take n (xs ++ drop (length xs) ys) ≡ xs
refilled {A} n xs ys h k =
    ap (λ (zs : List A). take n (xs ++ zs)) (drop_all (length xs) ys (omega (arith, h, k)))
    ∙ ap (take n) (append-nil xs)
    ∙ take_all n xs (omega (arith, h))

pub returns-in-Writes : goal.returns-in-Writes
returns-in-Writes c =
    let xs = c.write_cells.new.cells in
    let old = c.args.m.now.cells.items in
    let n : length old ≡ c.args.m.now.cells.len = omega (arith, ap length c.as_mut_slice.ensures.value, c.as_mut_slice.ensures.len) in
    let k : length xs ≡ c.args.m.now.cells.len = omega (arith, ap length c.as_mut_slice.ensures.value, c.as_mut_slice.ensures.len, c.write_cells.auto.cells) in
    record {
      value = λ ts.
          ap (λ (ys : List Scalar). record (memory_of ts c.args.m.now) { cells = value_of ts ys }) (refilled c.args.m.now.cells.len xs old k n)
          ∙ ap (λ (ys : Value). record (memory_of ts c.args.m.now) { cells = ys })
          (c.write_cells.ensures.value ts ∙ ap (λ (ys : List Scalar). written (value_of ts ys) c.in-Writes.base (value_of ts c.in-Writes.cells.now)) c.as_mut_slice.ensures.value)
          ∙ ap (changed ts (memory_of ts c.args.m.now)) (sym c.in-Writes.is);
    }

pub returns-in-WritesAndAdds : goal.returns-in-WritesAndAdds
returns-in-WritesAndAdds c =
    let xs = c.write_cells-in-WritesAndAdds.new.cells in
    let old = c.args.m.now.cells.items in
    let fresh = c.in-WritesAndAdds.fresh.now in
    let n : length old ≡ c.args.m.now.cells.len = omega (arith, ap length c.as_mut_slice-in-WritesAndAdds.ensures.value, c.as_mut_slice-in-WritesAndAdds.ensures.len) in
    let k : length xs ≡ c.args.m.now.cells.len = omega (arith, ap length c.as_mut_slice-in-WritesAndAdds.ensures.value, c.as_mut_slice-in-WritesAndAdds.ensures.len, c.write_cells-in-WritesAndAdds.auto.cells) in
    record {
      value = on_ok_weaker c.add_fresh-in-WritesAndAdds.result (λ h ts.
          h ts
          ∙ ap (λ (ys : List Scalar). with_fresh (record (memory_of ts c.args.m.now) { cells = value_of ts ys }) (value_of ts fresh)) (refilled c.args.m.now.cells.len xs old k n)
          ∙ ap (λ (ys : Value). with_fresh (record (memory_of ts c.args.m.now) { cells = ys }) (value_of ts fresh))
          (c.write_cells-in-WritesAndAdds.ensures.value ts
          ∙ ap (λ (ys : List Scalar). written (value_of ts ys) c.in-WritesAndAdds.base (value_of ts c.in-WritesAndAdds.cells.now)) c.as_mut_slice-in-WritesAndAdds.ensures.value)
          ∙ ap (changed ts (memory_of ts c.args.m.now)) (sym c.in-WritesAndAdds.is)) c.add_fresh-in-WritesAndAdds.ensures.value;
    }
