use Rattle.std.proofs.Common.{◌∙◌, refl, sym, ap, arith, get_or, List}
use Rattle.std.proofs.lemmas.List.{length-map}
use Rattle.go_type.specs.Levels.{tree_of}
use Rattle.go_type.specs.Named.{NamedTy}
use Rattle.go_type.specs.Table.{places}
use Rattle.go_core.specs.CoreView.{var_of}
use Rattle.go_core.specs.Layout.{shape_of, weight}
use Rattle.go_state.specs.StateSeen.{vars_of}
use Rattle.go_state.proofs.Lists.{no_var, split_map}
use Rattle.go_state.proofs.ResultLemmas.{weights_step, weights_end}
use Rattle.go_state.proofs.bindings.results.weights.Goals as goal

pub each-preserved : goal.each-preserved
each-preserved c = λ p g q.
    let w = c.args.c.now.table.now in
    let ts = places w in
    let i = c.each.i in
    let v = get_or c.args.vars.now i no_var in
    weights_step p g (vars_of ts c.args.vars.now) i c.each.units c.in_ok-one.one _ _ (var_of ts v)
    (split_map (var_of ts) c.args.vars.now i v no_var (omega (arith, c.each-test.true)) refl)
    c.in_ok-units.ensures.value
    (c.in_ok-one.ensures.value ∙ ap (λ (ns : List NamedTy). weight (shape_of ns (tree_of ts v.ty))) (sym q))
    (c.each.invariant p g q)

pub returns : goal.returns
returns c =
    let ts = places c.args.c.now.table.now in
    record {
      value = λ p g q.
          weights_end p g (vars_of ts c.args.vars.now) c.each.i c.each.units _ (omega (arith, c.each-test.false, length-map c.args.vars.now (var_of ts))) (c.each.invariant p g q);
    }
