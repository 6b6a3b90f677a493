use Rattle.std.proofs.Common.{◌∙◌, [], sym, ap, List}
use Rattle.std.specs.Prelude.{Option, Some}
use Rattle.go_type.specs.Table.{places}
use Rattle.go_core.specs.Calls.{entered}
use Rattle.go_core.specs.CoreTree.{MethodRow}
use Rattle.go_core.specs.CoreView.{method_row_view, program_view}
use Rattle.go_core.specs.Goroutine.{reporting, with_memory}
use Rattle.go_core.specs.Memory.{Value}
use Rattle.go_core.specs.Panics.{report_by, report_with}
use Rattle.go_values.specs.ValuesSeen.{scalar_of, memory_of}
use Rattle.go_slices.proofs.MapsListLemmas.{item_seen, none_seen}
use Rattle.go_entries.proofs.FrameLemmas.{leaves_as}
use Rattle.go_entries.proofs.end_steps.ends.report_by.Goals as goal

pub returns-in_ok-operands-in-Some : goal.returns-in_ok-operands-in-Some
returns-in_ok-operands-in-Some c =
    let q = program_view c.args.p.now in
    let ts = places c.args.p.now.types in
    let m = memory_of ts c.args.m.now in
    let v = scalar_of ts c.args.x in
    let row = c.args.row in
    let found = c.in-Some.found in
    let there = item_seen (method_row_view ts) _ c.args.p.now.methods.items.items row found c.as_slice.ensures.value c.in-Some.ensures.lookup in
    record {
      value =
          leaves_as ts c.asked.result _ _ _ _
          (λ g s.
          ap (λ (o : Option MethodRow). report_by q g o row v (with_memory m s)) there
          ∙ ap (λ (vs : List Value). report_with q g v (entered q found.now.func.0 [] (Some row) vs reporting m) (with_memory m s)) (sym (c.in_ok-operands-in-Some.ensures.value ts q g)))
          c.asked.ensures.value;
    }

pub returns-in-None : goal.returns-in-None
returns-in-None c =
    let q = program_view c.args.p.now in
    let ts = places c.args.p.now.types in
    let m = memory_of ts c.args.m.now in
    let there = none_seen (method_row_view ts) _ c.args.p.now.methods.items.items c.args.row c.as_slice.ensures.value c.in-None.ensures.lookup in
    record { value = λ g s. ap (λ (o : Option MethodRow). report_by q g o c.args.row (scalar_of ts c.args.x) (with_memory m s)) there }
