use Rattle.go_type.specs.Table.{places}
use Rattle.go_core.specs.Calls as calls
use Rattle.go_core.specs.CoreView.{program_view, var_of}
use Rattle.go_core.specs.Goroutine.{with_memory}
use Rattle.go_values.specs.ValuesSeen.{value_of, memory_of}
use Rattle.go_state.proofs.GoesLemmas.{lacked, same_step}
use Rattle.go_entries.proofs.call_steps.calls.receive_through_step.Goals as goal

pub returns-in_err-x : goal.returns-in_err-x
returns-in_err-x c = record {
  value =
      let q = program_view c.args.p.now in
      let ts = places c.args.p.now.types in
      let v = var_of ts c.args.var in
      let m = memory_of ts c.args.m.now in
      lacked q ts c.from_residual.result c.in_err-x.field-0.0 c.args.f.now c.operand.new.f c.args.m.now c.args.m.now (λ g. calls.receive_through_step q g v) c.from_residual.ensures.1
      (λ g below s. c.in_err-x.ensures.value ts (calls.read_through q g v below (with_memory m s)));
}

pub returns : goal.returns
returns c = record {
  value =
      let q = program_view c.args.p.now in
      let ts = places c.args.p.now.types in
      let v = var_of ts c.args.var in
      let m = memory_of ts c.args.m.now in
      same_step q ts c.read_by.result c.args.f.now c.operand.new.f c.operand.new.f c.args.m.now c.read_by.new.m
      (λ g y below s. calls.read_through q g v below s (value_of ts c.in_ok-x.x.now) y) (λ g. calls.receive_through_step q g v)
      (λ g below s. c.in_ok-x.ensures.value ts (calls.read_through q g v below (with_memory m s)))
      c.read_by.ensures.value;
}
