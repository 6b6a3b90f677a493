use Rattle.std.proofs.Common.{◌∙◌, ◌∷◌, [], ap, List}
use Rattle.std.specs.Prelude.{Option, None}
use Rattle.go_type.specs.Table.{places}
use Rattle.go_core.specs.Calls as calls
use Rattle.go_core.specs.CoreView.{program_view}
use Rattle.go_core.specs.Goroutine.{with_memory}
use Rattle.go_core.specs.Panics.{report_with}
use Rattle.go_values.specs.ValuesSeen.{scalar_of, memory_of}
use Rattle.go_state.specs.StateSeen.{frame_of, stacked}
use Rattle.go_state.specs.declared.state.frame.Frame.{Frame}
use Rattle.go_entries.proofs.FrameLemmas.{left_with, no_frame}
use Rattle.go_entries.proofs.end_steps.ends.asked.Goals as goal

pub returns-in_err-entered : goal.returns-in_err-entered
returns-in_err-entered c =
    let q = program_view c.args.p.now in
    let ts = places c.args.p.now.types in
    let m = memory_of ts c.args.m.now in
    record {
      value =
          no_frame ts c.from_residual.result _ _ _ _ _ _ c.from_residual.ensures.1 c.in_err-entered.ensures.value
          (λ h g s. ap (λ (o : Option calls.Entered). report_with q g (scalar_of ts c.args.x) o (with_memory m s)) h);
    }

pub returns : goal.returns
returns c =
    let q = program_view c.args.p.now in
    let ts = places c.args.p.now.types in
    let m = memory_of ts c.args.m.now in
    let e = c.in_ok-entered.entered in
    record {
      value =
          left_with ts None c.put.new.below.items c.enter.new.m _ (frame_of ts e.frame ∷ [])
          (c.in_ok-put.ensures.value ts ∙ ap (λ (fs : List Frame). frame_of ts e.frame ∷ stacked (frame_of ts) fs) c.clear.ensures.items)
          (λ g s. ap (λ (o : Option calls.Entered). report_with q g (scalar_of ts c.args.x) o (with_memory m s)) c.in_ok-entered.ensures.value);
    }
