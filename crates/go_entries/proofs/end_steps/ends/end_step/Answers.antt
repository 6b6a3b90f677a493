use Rattle.std.proofs.Common.{◌∙◌, sym, ap, arith, List}
use Rattle.go_type.specs.Table.{places}
use Rattle.go_core.specs.CoreView.{program_view}
use Rattle.go_core.specs.Goroutine as defined
use Rattle.go_core.specs.Goroutine.{with_memory}
use Rattle.go_core.specs.Panics.{deferred_step, end_by_mode, ended_step}
use Rattle.go_values.specs.ValuesSeen.{memory_of}
use Rattle.go_state.specs.StateSeen.{frame_of, invocation_of, stacked}
use Rattle.go_state.specs.declared.state.frame.Invocation.{Invocation}
use Rattle.go_entries.proofs.FrameLemmas.{call_above, leaves_as, none_there, none_left}
use Rattle.go_entries.proofs.end_steps.ends.end_step.Goals as goal

pub returns-in-Some : goal.returns-in-Some
returns-in-Some c =
    let q = program_view c.args.p.now in
    let ts = places c.args.p.now.types in
    let fs = stacked (frame_of ts) c.args.below.now.items in
    let m = memory_of ts c.args.m.now in
    let f = frame_of ts c.emptied-f.result in
    let i = invocation_of ts c.in-Some.call in
    let rest = stacked (invocation_of ts) c.pop.new.self.items in
    record {
      value =
          leaves_as ts c.deferred_step.result _ _ _ _
          (λ g s.
          ap (λ (x : defined.Frame). ended_step q g x.deferred_calls x fs (with_memory m s)) (sym (c.emptied-f.ensures.value ts))
          ∙ ap (λ (is : List defined.Invocation). ended_step q g is f fs (with_memory m s)) (call_above ts _ _ _ c.in-Some.ensures.items)
          ∙ ap (λ (u : defined.Mode). deferred_step q g i (record f { deferred_calls = rest; mode = u }) fs (with_memory m s)) (sym (c.is_returning-f.ensures.value ts q g)))
          c.deferred_step.ensures.value;
    }

pub returns : goal.returns
returns c =
    let q = program_view c.args.p.now in
    let ts = places c.args.p.now.types in
    let fs = stacked (frame_of ts) c.args.below.now.items in
    let m = memory_of ts c.args.m.now in
    let f = frame_of ts c.emptied-f.result in
    let calls = c.emptied-f.result.deferred.items in
    let counted = c.emptied-f.result.deferred.ok.0 in
    let e = none_there calls (omega (arith, counted, c.in-None.ensures.cases.0)) in
    let n = none_left calls c.pop.new.self.items e c.in-None.ensures.items in
    record {
      value =
          leaves_as ts c.end_by_mode.result _ _ _ _
          (λ g s.
          ap (λ (x : defined.Frame). ended_step q g x.deferred_calls x fs (with_memory m s)) (sym (c.emptied-f.ensures.value ts))
          ∙ ap (λ (is : List Invocation). ended_step q g (stacked (invocation_of ts) is) f fs (with_memory m s)) e
          ∙ ap (λ (is : List Invocation). end_by_mode q g f.mode (record f { deferred_calls = stacked (invocation_of ts) is }) fs (with_memory m s)) (e ∙ sym n))
          c.end_by_mode.ensures.value;
    }
