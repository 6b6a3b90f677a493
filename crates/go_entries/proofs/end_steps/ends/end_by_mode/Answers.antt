use Rattle.std.proofs.Common.{sym, ap, subst}
use Rattle.go_type.specs.Table.{places, names}
use Rattle.go_type.specs.declared.table.TypeTable.{TypeTable}
use Rattle.go_core.specs.Calls.{results_of}
use Rattle.go_core.specs.CoreView.{program_view}
use Rattle.go_core.specs.Goroutine.{with_memory}
use Rattle.go_core.specs.Panics.{end_by_mode, ended_with}
use Rattle.go_values.specs.ValuesSeen.{memory_of}
use Rattle.go_state.specs.StateSeen.{frame_of, mode_of, places_of, purpose_of, stacked, vars_of}
use Rattle.go_state.specs.declared.state.frame.Mode.{Mode}
use Rattle.go_entries.proofs.FrameLemmas.{leaves_as}
use Rattle.go_entries.specs.Leaves.{Leaves}
use Rattle.go_entries.proofs.end_steps.ends.end_by_mode.Goals as goal

pub returns-in-Panicking : goal.returns-in-Panicking
returns-in-Panicking c =
    let q = program_view c.args.p.now in
    let ts = places c.args.p.now.types in
    let f = c.args.f.now in
    let fs = stacked (frame_of ts) c.args.below.now.items in
    let m = memory_of ts c.args.m.now in
    record {
      value =
          leaves_as ts c.removed_panicking.result _ _ _ _ (λ g s. ap (λ (u : Mode). end_by_mode q g (mode_of ts u) (frame_of ts f) fs (with_memory m s)) c.in-Panicking.is) c.removed_panicking.ensures.value;
    }

pub returns-in-Normal : goal.returns-in-Normal
returns-in-Normal c =
    let q = program_view c.args.p.now in
    let ts = places c.args.p.now.types in
    let f = c.args.f.now in
    let below = c.args.below.now.items in
    let fs = stacked (frame_of ts) below in
    let m = memory_of ts c.args.m.now in
    let left =
    subst (λ (u : TypeTable). Leaves (places u) c.returned.result c.returned.new.below.items c.args.m.now
    (λ g s.
    ended_with q g (purpose_of f.purpose) (results_of q g (vars_of (places u) f.results.now) (places_of f.places.items) (memory_of (places u) c.args.m.now)) (stacked (frame_of (places u)) below)
    (with_memory (memory_of (places u) c.args.m.now) s))) c.requires (c.returned.ensures.value q (ap names (sym c.requires))) in
    record {
      value = leaves_as ts c.returned.result _ _ _ _ (λ g s. ap (λ (u : Mode). end_by_mode q g (mode_of ts u) (frame_of ts f) fs (with_memory m s)) c.in-Normal.is) left;
    }

pub returns-in-Returning : goal.returns-in-Returning
returns-in-Returning c =
    let q = program_view c.args.p.now in
    let ts = places c.args.p.now.types in
    let f = c.args.f.now in
    let below = c.args.below.now.items in
    let fs = stacked (frame_of ts) below in
    let m = memory_of ts c.args.m.now in
    let left =
    subst (λ (u : TypeTable). Leaves (places u) c.returned-in-Returning.result c.returned-in-Returning.new.below.items c.args.m.now
    (λ g s.
    ended_with q g (purpose_of f.purpose) (results_of q g (vars_of (places u) f.results.now) (places_of f.places.items) (memory_of (places u) c.args.m.now)) (stacked (frame_of (places u)) below)
    (with_memory (memory_of (places u) c.args.m.now) s))) c.requires (c.returned-in-Returning.ensures.value q (ap names (sym c.requires))) in
    record {
      value = leaves_as ts c.returned-in-Returning.result _ _ _ _ (λ g s. ap (λ (u : Mode). end_by_mode q g (mode_of ts u) (frame_of ts f) fs (with_memory m s)) c.in-Returning.is) left;
    }
