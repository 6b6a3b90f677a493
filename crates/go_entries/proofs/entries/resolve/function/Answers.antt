use Rattle.std.proofs.Common.{◌∙◌, sym, ap}
use Rattle.std.specs.Prelude.{Option, option_and_then}
use Rattle.go_type.specs.Table.{places}
use Rattle.go_core.specs.Calls.{bases_of, function_with}
use Rattle.go_core.specs.CoreTree.{CoreFunc}
use Rattle.go_core.specs.CoreView.{func_view}
use Rattle.go_values.specs.ValuesSeen.{values_of}
use Rattle.go_slices.proofs.MapsListLemmas.{item_seen, none_seen}
use Rattle.go_state.specs.StateSeen.{places_of}
use Rattle.go_state.proofs.TodoLemmas.{if_ok}
use Rattle.go_entries.proofs.entries.resolve.function.Goals as goal

pub returns-in-Some : goal.returns-in-Some
returns-in-Some c =
    let ts = places c.args.p.now.types in
    let there = item_seen (func_view ts) _ c.args.p.now.funcs.items.items c.args.func.0 c.in-Some.f c.as_slice.ensures.value c.in-Some.ensures.lookup in
    record {
      value = if_ok c.function_at.result (λ r h.
          h ts
          ∙ ap (λ (o : Option CoreFunc). function_with c.args.func.0 (values_of ts c.args.vs.now) (option_and_then (λ (f : CoreFunc). bases_of f.captured (places_of c.args.at.now)) o)) (sym there)) c.function_at.ensures.value;
    }

pub returns-in-None : goal.returns-in-None
returns-in-None c =
    let ts = places c.args.p.now.types in
    let there = none_seen (func_view ts) _ c.args.p.now.funcs.items.items c.args.func.0 c.as_slice.ensures.value c.in-None.ensures.lookup in
    record {
      value = ap (λ (o : Option CoreFunc). function_with c.args.func.0 (values_of ts c.args.vs.now) (option_and_then (λ (f : CoreFunc). bases_of f.captured (places_of c.args.at.now)) o)) (sym there);
    }
