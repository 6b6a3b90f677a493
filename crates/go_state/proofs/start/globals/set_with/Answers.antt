use Rattle.std.proofs.Common.{◌∙◌, arith, map}
use Rattle.std.proofs.lemmas.List.{length-map}
use Rattle.go_core.specs.CoreView.{package_var_view}
use Rattle.go_state.proofs.StartLemmas.{split_map, set_step, set_end}
use Rattle.go_state.proofs.start.globals.set_with.Goals as goal

pub globals-preserved : goal.globals-preserved
globals-preserved c = λ ts.
    let view = package_var_view ts in
    let gs = c.args.globals.now in
    let i = c.globals.i in
    let x = c.index-globals-i.result in
    set_step (view c.args.holder.now) (map view gs) i (view x) c.sets-wanted.result c.globals.numbers.items _ _
    (split_map view gs i x x (omega (arith, c.globals-test.true)) c.index-globals-i.is)
    (c.sets-wanted.ensures.value ts) c.in_ok-add_where.ensures.value (c.globals.invariant ts)

pub returns : goal.returns
returns c = record {
  value = λ ts.
      let view = package_var_view ts in
      c.in_ok-held.ensures
      ∙ c.as_slice.ensures.value
      ∙ set_end (view c.args.holder.now) (map view c.args.globals.now) c.globals.i c.globals.numbers.items _ (omega (arith, c.globals-test.false, length-map c.args.globals.now view)) (c.globals.invariant ts);
}
