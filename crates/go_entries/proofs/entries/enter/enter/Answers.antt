use Rattle.std.proofs.Common.{sym, ap, subst}
use Rattle.std.specs.Prelude.{Option}
use Rattle.go_type.specs.Table.{places}
use Rattle.go_core.specs.Calls.{entered_at}
use Rattle.go_core.specs.CoreTree.{CoreFunc}
use Rattle.go_core.specs.CoreView.{func_view, program_view}
use Rattle.go_values.specs.ValuesSeen.{values_of, memory_of}
use Rattle.go_slices.proofs.MapsListLemmas.{item_seen, none_seen}
use Rattle.go_state.specs.StateSeen.{purpose_of}
use Rattle.go_entries.specs.EntriesSeen.{IsEntered}
use Rattle.go_entries.proofs.entries.enter.enter.Goals as goal

pub returns-in-Some : goal.returns-in-Some
returns-in-Some c =
    let q = program_view c.args.p.now in
    let ts = places c.args.p.now.types in
    let r = c.args.ready in
    let there = item_seen (func_view ts) _ c.args.p.now.funcs.items.items r.func c.in-Some.func c.as_slice.ensures.value c.in-Some.ensures.lookup in
    record {
      value =
          subst (λ (o : Option CoreFunc). IsEntered ts c.entered_at.result c.entered_at.new.m (entered_at q r.func o r.bases.now r.row (values_of ts r.operands.now) (purpose_of c.args.purpose) (memory_of ts c.args.m.now))) (sym there) c.entered_at.ensures.value;
    }

pub returns-in-None : goal.returns-in-None
returns-in-None c =
    let q = program_view c.args.p.now in
    let ts = places c.args.p.now.types in
    let r = c.args.ready in
    let there = none_seen (func_view ts) _ c.args.p.now.funcs.items.items r.func c.as_slice.ensures.value c.in-None.ensures.lookup in
    record {
      value = ap (λ (o : Option CoreFunc). entered_at q r.func o r.bases.now r.row (values_of ts r.operands.now) (purpose_of c.args.purpose) (memory_of ts c.args.m.now)) there;
    }
