use Rattle.std.proofs.Common.{ap, sym, ◌∙◌, subst, List, map}
use Rattle.std.specs.Prelude.{Option, option_map}
use Rattle.go_type.specs.Table.{places}
use Rattle.go_core.specs.CoreTree.{CoreFunc}
use Rattle.go_core.specs.Calls as calls
use Rattle.go_core.specs.CoreView.{func_view, id_of, program_view}
use Rattle.go_core.specs.declared.node.VarId.{VarId}
use Rattle.go_core.specs.GoStep as steps
use Rattle.go_core.specs.Goroutine.{with_memory}
use Rattle.go_values.specs.ValuesSeen.{memory_of}
use Rattle.go_state.specs.StateSeen.{frame_of}
use Rattle.go_state.specs.Goes.{Goes}
use Rattle.go_slices.proofs.MapsListLemmas.{got_seen}
use Rattle.go_entries.proofs.local_steps.operate.closure_step.Goals as goal

pub returns-in-Some : goal.returns-in-Some
returns-in-Some c = record {
  value = λ choices free ts m.
      let p = program_view c.args.p.now in
      let view = func_view (places c.args.p.now.types) in
      let there = sym (got_seen view _ c.args.p.now.funcs.items.items c.args.func.0 c.get.result c.as_slice.ensures.value c.get.ensures.lookup) ∙ ap (option_map (λ x. view x.now)) c.in-Some.is in
      subst (λ (o : Option CoreFunc). Goes p ts c.closure_over.result c.args.f.now c.closure_over.new.f m m (λ g. steps.closure_step p choices free g c.args.func.0 o)) (sym there)
      (subst (λ (vs : List VarId). Goes p ts c.closure_over.result c.args.f.now c.closure_over.new.f m m (λ g x. steps.closure_with p choices free g c.args.func.0 (calls.bases_of (map id_of vs) x.places) x))
      c.as_slice-captured.ensures.value (c.closure_over.ensures.value p choices free ts m));
}

pub returns-in-None : goal.returns-in-None
returns-in-None c = record {
  value = λ choices free ts m g below s.
      let p = program_view c.args.p.now in
      let view = func_view (places c.args.p.now.types) in
      ap (λ o. steps.closure_step p choices free g c.args.func.0 o (frame_of ts c.args.f.now) below (with_memory (memory_of ts m) s))
      (sym (got_seen view _ c.args.p.now.funcs.items.items c.args.func.0 c.get.result c.as_slice.ensures.value c.get.ensures.lookup) ∙ ap (option_map (λ x. view x.now)) c.in-None.is);
}
