use Rattle.go_type.specs.Table.{places}
use Rattle.go_core.specs.Calls.{go_step, go_resolved, resolved}
use Rattle.go_core.specs.CoreView.{program_view}
use Rattle.go_core.specs.Goroutine.{with_memory}
use Rattle.go_values.specs.ValuesSeen.{memory_of}
use Rattle.go_entries.specs.EntriesSeen.{called_of, resolved_of}
use Rattle.go_entries.proofs.CallStepsEnterLemmas.{starts_by, starts_lacked}
use Rattle.go_entries.proofs.call_steps.calls.go_step.Goals as goal

pub returns-in_err-found : goal.returns-in_err-found
returns-in_err-found c =
    let q = program_view c.args.p.now in
    let ts = places c.args.p.now.types in
    let m = memory_of ts c.args.m.now in
    let called = called_of ts c.args.called in
    record {
      value =
          starts_lacked q ts c.from_residual.result c.in_err-found.field-0.0 c.args.f.now c.take_callee.new.f c.args.m.now c.args.m.now (λ g. go_step q g called c.args.count) c.from_residual.ensures.1
          (λ g below s. c.in_err-found.ensures.value (λ vs x. go_resolved q g (resolved q called x.places vs) x below (with_memory m s)));
    }

pub returns : goal.returns
returns c =
    let q = program_view c.args.p.now in
    let ts = places c.args.p.now.types in
    let m = memory_of ts c.args.m.now in
    record {
      value =
          starts_by q ts c.args.f.now c.take_callee.new.f c.args.m.now c.entered.new.m (λ g. go_step q g (called_of ts c.args.called) c.args.count) c.entered.result (resolved_of ts c.in_ok-found.found)
          (λ g below s. c.in_ok-found.ensures.value (λ r x. go_resolved q g r x below (with_memory m s))) c.entered.ensures.value;
    }
