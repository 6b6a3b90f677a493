use Rattle.std.proofs.Common.{◌∙◌, [], sym, ap, ℕ, List}
use Rattle.std.specs.Prelude.{Some}
use Rattle.go_type.specs.Table.{places}
use Rattle.go_core.specs.CoreView.{program_view}
use Rattle.go_core.specs.Goroutine.{moved, panicked, with_memory}
use Rattle.go_core.specs.Panics.{removed_panicking}
use Rattle.go_values.specs.ValuesSeen.{scalar_of, memory_of}
use Rattle.go_state.specs.StateSeen.{frame_of, purpose_of, stacked}
use Rattle.go_state.specs.declared.state.frame.Purpose.{Purpose}
use Rattle.go_state.specs.declared.state.state.End.TheVariants as end
use Rattle.go_entries.proofs.FrameLemmas.{deferred_as_called, left_with, leaves_as}
use Rattle.go_entries.proofs.end_steps.ends.removed_panicking.Goals as goal

pub returns-in-Called : goal.returns-in-Called
returns-in-Called c =
    let q = program_view c.args.p.now in
    let ts = places c.args.p.now.types in
    let fs = stacked (frame_of ts) c.args.below.now.items in
    let m = memory_of ts c.args.m.now in
    let v = scalar_of ts c.args.x in
    record {
      value =
          leaves_as ts c.panicking_below.result _ _ _ _ (λ g s. ap (λ (u : Purpose). removed_panicking q g (purpose_of u) v fs (with_memory m s)) c.in-Called.is) c.panicking_below.ensures.value;
    }

pub returns-in-Deferred : goal.returns-in-Deferred
returns-in-Deferred c =
    let q = program_view c.args.p.now in
    let ts = places c.args.p.now.types in
    let fs = stacked (frame_of ts) c.args.below.now.items in
    let m = memory_of ts c.args.m.now in
    let v = scalar_of ts c.args.x in
    record {
      value =
          leaves_as ts c.panicking_below-in-Deferred.result _ _ _ _
          (λ g s. ap (λ (u : Purpose). removed_panicking q g (purpose_of u) v fs (with_memory m s)) c.in-Deferred.is ∙ deferred_as_called q g v fs (with_memory m s))
          c.panicking_below-in-Deferred.ensures.value;
    }

pub returns-in_ok-text-in-Reporting : goal.returns-in_ok-text-in-Reporting
returns-in_ok-text-in-Reporting c =
    let q = program_view c.args.p.now in
    let ts = places c.args.p.now.types in
    let fs = stacked (frame_of ts) c.args.below.now.items in
    let m = memory_of ts c.args.m.now in
    let v = scalar_of ts c.args.x in
    record {
      value =
          left_with ts (Some (end.Panicked c.in_ok-text-in-Reporting.text)) c.clear.new.self.items c.args.m.now _ [] (ap (stacked (frame_of ts)) c.clear.ensures.items)
          (λ g s.
          ap (λ (u : Purpose). removed_panicking q g (purpose_of u) v fs (with_memory m s)) c.in-Reporting.is
          ∙ ap (λ (bytes : List ℕ). Some (record (moved g [] 1 (with_memory m s)) { end = panicked bytes })) (sym c.in_ok-text-in-Reporting.ensures.value));
    }
