use Rattle.std.proofs.Common.{◌∙◌, sym, ap}
use Rattle.std.specs.Prelude.{Option, Some, option_map}
use Rattle.go_type.specs.Table.{places, names}
use Rattle.go_core.specs.Calls as calls
use Rattle.go_core.specs.CoreTree.{CoreFunc}
use Rattle.go_core.specs.CoreView.{func_view, program_view}
use Rattle.go_type.specs.declared.table.TypeTable.{TypeTable}
use Rattle.go_slices.proofs.MapsListLemmas.{got_seen}
use Rattle.go_state.proofs.TodoLemmas.{if_ok}
use Rattle.go_entries.proofs.call_steps.calls.frame_weights.Goals as goal

pub returns-in-Some : goal.returns-in-Some
returns-in-Some c = record {
  value = if_ok c.weights_of.result (λ n h g.
      let q = program_view c.args.p.now in
      let ts = places c.args.p.now.types in
      let view = func_view ts in
      let there = sym (got_seen view _ c.args.p.now.funcs.items.items c.args.func c.get.result c.as_slice.ensures.value c.get.ensures.lookup) ∙ ap (option_map (λ x. view x.now)) c.in-Some.is in
      let f = c.in-Some.f.now in
      h q g (ap names (sym c.requires))
      ∙ ap (λ (v : TypeTable). calls.frame_weights q g (Some (func_view (places v) f)) c.args.count) c.requires
      ∙ sym (ap (λ (o : Option CoreFunc). calls.frame_weights q g o c.args.count) there)) c.weights_of.ensures.value;
}

pub returns-in-None : goal.returns-in-None
returns-in-None c = record {
  value = λ g.
      let q = program_view c.args.p.now in
      let view = func_view (places c.args.p.now.types) in
      let there = sym (got_seen view _ c.args.p.now.funcs.items.items c.args.func c.get.result c.as_slice.ensures.value c.get.ensures.lookup) ∙ ap (option_map (λ x. view x.now)) c.in-None.is in
      sym (ap (λ (o : Option CoreFunc). calls.frame_weights q g o c.args.count) there);
}
