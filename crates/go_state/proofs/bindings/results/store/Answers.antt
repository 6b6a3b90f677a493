use Rattle.std.proofs.Common.{◌∙◌, refl, sym, arith, get_or, List}
use Rattle.std.proofs.lemmas.List.{length-map}
use Rattle.std.specs.Borrow.{Bor}
use Rattle.go_core.specs.CoreView.{var_of}
use Rattle.go_values.specs.ValuesSeen.{value_of, values_of, memory_of}
use Rattle.go_values.specs.declared.values.scalar.Scalar.{Scalar}
use Rattle.go_state.specs.StateSeen.{places_of, vars_of}
use Rattle.go_state.proofs.Lists.{no_var, nothing, split_map}
use Rattle.go_state.proofs.ResultLemmas.{stored_step, stored_none, stored_end, stored_unequal}
use Rattle.go_state.proofs.bindings.results.store.Goals as goal

pub returns-then-vars-xs : goal.returns-then-vars-xs
returns-then-vars-xs c = record {
  value = λ ts p g.
      let seen = λ (x : Bor (List Scalar)). value_of ts x.now in
      stored_unequal p g (vars_of ts c.args.vars.now) (values_of ts c.args.xs.now) (places_of c.args.at.now) (memory_of ts c.args.m.now)
      (λ e. c.if-vars-xs.true (omega (arith, e, length-map c.args.vars.now (var_of ts), length-map c.args.xs.now seen)));
}

pub each-preserved : goal.each-preserved
each-preserved c = λ ts p g.
    let i = c.each.i in
    let v = get_or c.args.vars.now i no_var in
    let x = get_or c.args.xs.now i nothing in
    stored_step p g (vars_of ts c.args.vars.now) (places_of c.args.at.now) (values_of ts c.args.xs.now) _ i c.in-Some.base (var_of ts v) (value_of ts x.now) (memory_of ts c.each.m) _
    (split_map (var_of ts) c.args.vars.now i v no_var (omega (arith, c.each-test.true)) refl)
    (split_map (λ (y : Bor (List Scalar)). value_of ts y.now) c.args.xs.now i x nothing (omega (arith, c.each-test.true, c.if-vars-xs.false)) refl)
    (sym c.base_of.ensures.value ∙ c.in-Some.is) (c.write_value.ensures.value ts) (c.each.invariant ts p g)

pub returns-in-None : goal.returns-in-None
returns-in-None c =
    let i = c.each.i in
    let v = get_or c.args.vars.now i no_var in
    let x = get_or c.args.xs.now i nothing in
    record {
      value = λ ts p g.
          stored_none p g (vars_of ts c.args.vars.now) (places_of c.args.at.now) (values_of ts c.args.xs.now) _ i (var_of ts v) (value_of ts x.now) (memory_of ts c.each.m)
          (split_map (var_of ts) c.args.vars.now i v no_var (omega (arith, c.each-test.true)) refl)
          (split_map (λ (y : Bor (List Scalar)). value_of ts y.now) c.args.xs.now i x nothing (omega (arith, c.each-test.true, c.if-vars-xs.false)) refl)
          (sym c.base_of.ensures.value ∙ c.in-None.is) (c.each.invariant ts p g);
    }

pub returns : goal.returns
returns c = record {
  value = λ ts p g.
      let seen = λ (x : Bor (List Scalar)). value_of ts x.now in
      stored_end p g (vars_of ts c.args.vars.now) (places_of c.args.at.now) (values_of ts c.args.xs.now) _ c.each.i (memory_of ts c.each.m)
      (omega (arith, c.each-test.false, length-map c.args.vars.now (var_of ts)))
      (omega (arith, c.each-test.false, c.if-vars-xs.false, length-map c.args.xs.now seen))
      (c.each.invariant ts p g);
}
