use Rattle.std.proofs.Common.{◌∙◌, refl, ap, arith, get_or, ℕ}
use Rattle.std.proofs.lemmas.List.{length-map}
use Rattle.go_type.specs.Table.{places, names}
use Rattle.go_core.specs.Calls.{with_var}
use Rattle.go_core.specs.CoreView.{var_of}
use Rattle.go_core.specs.Memory.{Value}
use Rattle.go_state.specs.StateSeen.{vars_of}
use Rattle.go_state.specs.Bound.{bindings_of}
use Rattle.go_state.proofs.Lists.{no_var, split_map}
use Rattle.go_state.proofs.BindLemmas.{zeros_step, zeros_end}
use Rattle.go_state.proofs.bindings.bind.bind_zeros.Goals as goal

pub each-preserved : goal.each-preserved
each-preserved c =
    let w = c.args.c.now.table.now in
    let ts = places w in
    let i = c.each.i in
    let v = get_or c.args.vars.now i no_var in
    let b = bindings_of ts c.each.at.items c.each.m c.each.units in
    zeros_step (names w) (vars_of ts c.args.vars.now) i (var_of ts v) b _ _
    (split_map (var_of ts) c.args.vars.now i v no_var (omega (arith, c.each-test.true)) refl)
    (ap (λ (n : ℕ). bindings_of ts c.bind_var.new.at.items c.bind_var.new.m n) c.in_ok-units.ensures.value
    ∙ c.in_ok-one.ensures.value c.each.units
    ∙ ap (λ (x : Value). with_var (names w) (var_of ts v) x b) c.in_ok-zeros.ensures.value)
    c.each.invariant

pub returns : goal.returns
returns c =
    let w = c.args.c.now.table.now in
    let ts = places w in
    record {
      value =
          zeros_end (names w) (vars_of ts c.args.vars.now) c.each.i (bindings_of ts c.each.at.items c.each.m c.each.units) _
          (omega (arith, c.each-test.false, length-map c.args.vars.now (var_of ts)))
          c.each.invariant;
    }
