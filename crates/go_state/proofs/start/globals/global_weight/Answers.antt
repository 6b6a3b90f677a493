use Rattle.std.proofs.Common.{refl, arith, get_or, map}
use Rattle.std.proofs.lemmas.List.{length-map}
use Rattle.go_type.specs.Table.{places, names}
use Rattle.go_core.specs.CoreView.{package_var_view}
use Rattle.go_state.proofs.StartLemmas.{split_map, weight_step, weight_end}
use Rattle.go_state.proofs.start.globals.global_weight.Goals as goal

pub globals-preserved : goal.globals-preserved
globals-preserved c =
    let w = c.args.c.now.table.now in
    let view = package_var_view (places w) in
    let gs = c.args.globals.now in
    let i = c.globals.i in
    let x = get_or gs i c.index-globals-i.result in
    weight_step (names w) (map view gs) i c.globals.units c.in_ok-one.one c.in_ok-units.units _ (view x)
    (split_map view gs i x c.index-globals-i.result (omega (arith, c.globals-test.true)) refl)
    c.in_ok-units.ensures.value c.in_ok-one.ensures.value c.globals.invariant

pub returns : goal.returns
returns c =
    let w = c.args.c.now.table.now in
    let view = package_var_view (places w) in
    record { value = weight_end (names w) (map view c.args.globals.now) c.globals.i c.globals.units _ (omega (arith, c.globals-test.false, length-map c.args.globals.now view)) c.globals.invariant }
