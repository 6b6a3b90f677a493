use Rattle.std.proofs.Common.{◌∙◌, refl, ap, arith, get_or, map, List}
use Rattle.std.proofs.lemmas.List.{length-map}
use Rattle.std.specs.Borrow.{Bor}
use Rattle.go_type.specs.Table.{places, names}
use Rattle.go_type.specs.declared.table.TypeTable.{TypeTable}
use Rattle.go_core.specs.CoreView.{program_view, package_var_view}
use Rattle.go_core.specs.Memory.{with_written}
use Rattle.go_core.specs.StepMemory.{global_base}
use Rattle.go_core.specs.declared.program.PackageVar.{PackageVar}
use Rattle.go_values.specs.ValuesSeen.{value_of, values_of, memory_of}
use Rattle.go_values.specs.declared.values.scalar.Scalar.{Scalar}
use Rattle.go_state.proofs.Lists.{nothing, split_map}
use Rattle.go_entries.proofs.AssignStepsCountLemmas.{cells_step, cells_out, cells_end}
use Rattle.go_entries.proofs.assign_steps.globals.set_cells.Goals as goal

pub numbers-preserved : goal.numbers-preserved
numbers-preserved c = λ g.
    let w = c.args.c.now.table.now in
    let p = program_view c.args.p.now in
    let ts = places c.args.p.now.types in
    let i = c.numbers.i in
    let n = get_or c.args.numbers.now i 0 in
    let x = get_or c.args.xs.now i nothing in
    let m = memory_of ts c.numbers.m in
    let base =
    c.in_ok-base.ensures.value
    ∙ ap (λ (gs : List PackageVar). global_base (names w) (map (package_var_view (places w)) gs) n) c.as_slice.ensures.value
    ∙ ap (λ (v : TypeTable). global_base (names v) (map (package_var_view (places v)) c.args.p.now.globals.items.items) n) c.requires in
    cells_step p g c.args.numbers.now (values_of ts c.args.xs.now) _ i n 0 (value_of ts x.now) m (memory_of ts c.write_value.new.m)
    (omega (arith, c.numbers-test.true)) refl
    (split_map (λ (y : Bor (List Scalar)). value_of ts y.now) c.args.xs.now i x nothing (omega (arith, c.if-i-xs.false)) refl)
    (c.write_value.ensures.value ts ∙ ap (λ b. with_written m b (value_of ts x.now)) base) (c.numbers.invariant g)

pub returns-then-i-xs : goal.returns-then-i-xs
returns-then-i-xs c = record {
  value = λ g.
      let p = program_view c.args.p.now in
      let ts = places c.args.p.now.types in
      let seen = λ (x : Bor (List Scalar)). value_of ts x.now in
      cells_out p g c.args.numbers.now (values_of ts c.args.xs.now) _ c.numbers.i (memory_of ts c.numbers.m) (omega (arith, c.if-i-xs.true, length-map c.args.xs.now seen)) (c.numbers.invariant g);
}

pub returns : goal.returns
returns c = record {
  value = λ g.
      let p = program_view c.args.p.now in
      let ts = places c.args.p.now.types in
      cells_end p g c.args.numbers.now (values_of ts c.args.xs.now) _ c.numbers.i (memory_of ts c.numbers.m) (omega (arith, c.numbers-test.false)) (c.numbers.invariant g);
}
