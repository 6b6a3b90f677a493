use Rattle.std.proofs.Common.{◌∙◌, ◌++◌, ◌∷◌, [], refl, sym, ap, arith, get_or, ℕ, List}
use Rattle.std.proofs.lemmas.List.{length-map}
use Rattle.go_type.specs.Levels.{tree_of}
use Rattle.go_type.specs.Named.{NamedTy}
use Rattle.go_type.specs.Table.{places}
use Rattle.go_core.specs.CoreView.{var_of}
use Rattle.go_core.specs.Layout.{shape_of, size}
use Rattle.go_core.specs.Memory.{read_cells}
use Rattle.go_values.specs.ValuesSeen.{values_of, memory_of}
use Rattle.go_state.specs.StateSeen.{places_of, vars_of}
use Rattle.go_state.proofs.Lists.{no_var, split_map}
use Rattle.go_state.proofs.ResultLemmas.{results_step, results_none, results_end}
use Rattle.go_state.proofs.bindings.results.results_of.Goals as goal

pub each-preserved : goal.each-preserved
each-preserved c = λ p g q.
    let w = c.args.c.now.table.now in
    let ts = places w in
    let m = memory_of ts c.args.m.now in
    let i = c.each.i in
    let v = get_or c.args.vars.now i no_var in
    let held = values_of ts c.each.xs.items in
    let base = c.in-Some.base in
    results_step p g (vars_of ts c.args.vars.now) (places_of c.args.at.now) m _ i base (var_of ts v) held _
    (split_map (var_of ts) c.args.vars.now i v no_var (omega (arith, c.each-test.true)) refl)
    (sym c.base_of.ensures.value ∙ c.in-Some.is)
    (c.in_ok-push_cells.ensures.value ts
    ∙ ap (λ (n : ℕ). held ++ read_cells base n m.cells ∷ []) c.in_ok-size.ensures.value
    ∙ ap (λ (ns : List NamedTy). held ++ read_cells base (size (shape_of ns (tree_of ts v.ty))) m.cells ∷ []) (sym q))
    (c.each.invariant p g q)

pub returns-in-None : goal.returns-in-None
returns-in-None c =
    let w = c.args.c.now.table.now in
    let ts = places w in
    let i = c.each.i in
    let v = get_or c.args.vars.now i no_var in
    record {
      value = λ p g q.
          results_none p g (vars_of ts c.args.vars.now) (places_of c.args.at.now) (memory_of ts c.args.m.now) _ i (var_of ts v) (values_of ts c.each.xs.items)
          (split_map (var_of ts) c.args.vars.now i v no_var (omega (arith, c.each-test.true)) refl)
          (sym c.base_of.ensures.value ∙ c.in-None.is) (c.each.invariant p g q);
    }

pub returns : goal.returns
returns c =
    let ts = places c.args.c.now.table.now in
    record {
      value = λ p g q.
          results_end p g (vars_of ts c.args.vars.now) (places_of c.args.at.now) (memory_of ts c.args.m.now) _ c.each.i (values_of ts c.each.xs.items)
          (omega (arith, c.each-test.false, length-map c.args.vars.now (var_of ts))) (c.each.invariant p g q);
    }
