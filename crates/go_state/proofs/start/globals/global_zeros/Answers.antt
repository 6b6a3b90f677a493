use Rattle.std.proofs.Common.{◌∙◌, ap, refl, arith, get_or, map}
use Rattle.std.proofs.lemmas.List.{length-map, map-append}
use Rattle.go_type.specs.Table.{places, names}
use Rattle.go_core.specs.CoreView.{package_var_view}
use Rattle.go_values.specs.ValuesSeen.{scalar_of, value_of}
use Rattle.go_state.proofs.StartLemmas.{split_map, zeros_step, zeros_end}
use Rattle.go_state.proofs.start.globals.global_zeros.Goals as goal

pub globals-preserved : goal.globals-preserved
globals-preserved c =
    let w = c.args.c.now.table.now in
    let ts = places w in
    let view = package_var_view ts in
    let gs = c.args.globals.now in
    let i = c.globals.i in
    let x = get_or gs i c.index-globals-i.result in
    zeros_step (names w) (map view gs) i (view x) (value_of ts c.globals.xs.items) _ (value_of ts c.in_ok-zeros.zeros.now) _
    (split_map view gs i x c.index-globals-i.result (omega (arith, c.globals-test.true)) refl)
    (ap (value_of ts) c.in_ok-extend_from_slice.ensures.items ∙ map-append (scalar_of ts) c.globals.xs.items c.in_ok-zeros.zeros.now)
    c.in_ok-zeros.ensures.value c.globals.invariant

pub returns : goal.returns
returns c =
    let w = c.args.c.now.table.now in
    let view = package_var_view (places w) in
    record { value = zeros_end (names w) (map view c.args.globals.now) c.globals.i (value_of (places w) c.globals.xs.items) _ (omega (arith, c.globals-test.false, length-map c.args.globals.now view)) c.globals.invariant }
