use Rattle.std.proofs.Common.{◌∙◌, refl, ap, arith, get_or, ℕ, List}
use Rattle.std.proofs.lemmas.List.{length-map}
use Rattle.std.specs.Borrow.{Bor}
use Rattle.go_type.specs.Table.{places, names}
use Rattle.go_core.specs.CoreView.{var_of}
use Rattle.go_values.specs.ValuesSeen.{value_of, values_of}
use Rattle.go_values.specs.declared.values.scalar.Scalar.{Scalar}
use Rattle.go_state.specs.StateSeen.{vars_of}
use Rattle.go_state.specs.Bound.{bindings_of}
use Rattle.go_state.proofs.Lists.{no_var, nothing, split_map}
use Rattle.go_state.proofs.BindLemmas.{vars_step, vars_end, vars_unequal}
use Rattle.go_state.proofs.bindings.bind.bind_vars.Goals as goal

pub returns-then-vars-xs : goal.returns-then-vars-xs
returns-then-vars-xs c =
    let w = c.args.c.now.table.now in
    let ts = places w in
    let seen = λ (x : Bor (List Scalar)). value_of ts x.now in
    record {
      value =
          vars_unequal (names w) (vars_of ts c.args.vars.now) (values_of ts c.args.xs.now) (bindings_of ts c.args.at.now.items c.args.m.now 0)
          (λ e. c.if-vars-xs.true (omega (arith, e, length-map c.args.vars.now (var_of ts), length-map c.args.xs.now seen)));
    }

pub each-preserved : goal.each-preserved
each-preserved c =
    let w = c.args.c.now.table.now in
    let ts = places w in
    let i = c.each.i in
    let v = get_or c.args.vars.now i no_var in
    let x = get_or c.args.xs.now i nothing in
    vars_step (names w) (vars_of ts c.args.vars.now) (values_of ts c.args.xs.now) _ i (var_of ts v) (value_of ts x.now) (bindings_of ts c.each.at.items c.each.m c.each.units) _
    (split_map (var_of ts) c.args.vars.now i v no_var (omega (arith, c.each-test.true)) refl)
    (split_map (λ (y : Bor (List Scalar)). value_of ts y.now) c.args.xs.now i x nothing (omega (arith, c.each-test.true, c.if-vars-xs.false)) refl)
    (ap (λ (n : ℕ). bindings_of ts c.bind_var.new.at.items c.bind_var.new.m n) c.in_ok-units.ensures.value ∙ c.in_ok-one.ensures.value c.each.units)
    c.each.invariant

pub returns : goal.returns
returns c =
    let w = c.args.c.now.table.now in
    let ts = places w in
    let seen = λ (x : Bor (List Scalar)). value_of ts x.now in
    record {
      value =
          vars_end (names w) (vars_of ts c.args.vars.now) (values_of ts c.args.xs.now) _ c.each.i (bindings_of ts c.each.at.items c.each.m c.each.units)
          (omega (arith, c.each-test.false, length-map c.args.vars.now (var_of ts)))
          (omega (arith, c.each-test.false, c.if-vars-xs.false, length-map c.args.xs.now seen))
          c.each.invariant;
    }
