use Rattle.std.proofs.Common.{◌∙◌, sym, ap, arith}
use Rattle.std.specs.Prelude.{option_map}
use Rattle.go_type.specs.Levels.{tree_of}
use Rattle.go_type.specs.Table.{places, names}
use Rattle.go_type.specs.declared.table.TypeTable.{TypeTable}
use Rattle.go_core.specs.CoreView.{package_var_view}
use Rattle.go_core.specs.Layout as layout
use Rattle.go_core.specs.Layout.{shape_of}
use Rattle.go_slices.proofs.MapsListLemmas.{got_seen}
use Rattle.go_state.proofs.TodoLemmas.{if_ok}
use Rattle.go_entries.proofs.assign_steps.globals.global_weight.Goals as goal

pub returns-in-Some : goal.returns-in-Some
returns-in-Some c = record {
  value = if_ok c.weight_of.result (λ n h g.
      let view = package_var_view (places c.args.p.now.types) in
      let there = sym (got_seen view _ c.args.p.now.globals.items.items c.args.number c.get.result c.as_slice.ensures.value c.get.ensures.lookup) ∙ ap (option_map (λ x. view x.now)) c.in-Some.is in
      let e = h ∙ ap (λ (w : TypeTable). layout.weight (shape_of (names w) (tree_of (places w) c.in-Some.global.now.ty))) c.requires in
      rw there (omega (arith, e))) c.weight_of.ensures.value;
}

pub returns-in-None : goal.returns-in-None
returns-in-None c = record {
  value = λ g.
      let view = package_var_view (places c.args.p.now.types) in
      let there = sym (got_seen view _ c.args.p.now.globals.items.items c.args.number c.get.result c.as_slice.ensures.value c.get.ensures.lookup) ∙ ap (option_map (λ x. view x.now)) c.in-None.is in
      rw there (omega arith);
}
