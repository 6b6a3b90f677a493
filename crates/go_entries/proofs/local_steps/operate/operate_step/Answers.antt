use Rattle.std.proofs.Common.{ap, sym, ◌∙◌, List}
use Rattle.std.specs.Borrow.{Bor}
use Rattle.go_type.specs.Table.{places}
use Rattle.go_core.specs.CoreView.{program_view}
use Rattle.go_core.specs.Frames.{did_step}
use Rattle.go_core.specs.GoStep as steps
use Rattle.go_core.specs.Goroutine.{with_memory}
use Rattle.go_core.specs.Operator.{operated}
use Rattle.go_slices.specs.Seen.{operator_of}
use Rattle.go_values.specs.ValuesSeen.{values_of, memory_of}
use Rattle.go_values.specs.declared.values.scalar.Scalar.{Scalar}
use Rattle.go_state.specs.StateSeen.{frame_of, move_of}
use Rattle.go_state.proofs.GoesLemmas.{lacked}
use Rattle.go_entries.proofs.LocalStepsStepLemmas.{did_halted, did_goes}
use Rattle.go_entries.proofs.local_steps.operate.operate_step.Goals as goal

pub returns-in_err-vs : goal.returns-in_err-vs
returns-in_err-vs c = record {
  value = λ choices.
      let p = program_view c.args.p.now in
      let ts = places c.args.p.now.types in
      let o = operator_of ts c.args.operator in
      let s0 = memory_of ts c.args.m.now in
      lacked p ts c.from_residual.result c.in_err-vs.field-0.0 c.args.f.now c.operands.new.f c.args.m.now c.args.m.now
      (λ g. steps.operate_step p choices (move_of c.args.free) g o c.args.count) c.from_residual.ensures.1
      (λ g below s. c.in_err-vs.ensures.value ts (λ vs f'. did_step p.hidden g (operated p c.args.free.capacity o vs s0) f' below (with_memory s0 s)));
}

pub returns-in_err-gives : goal.returns-in_err-gives
returns-in_err-gives c = record {
  value = λ choices.
      let p = program_view c.args.p.now in
      let ts = places c.args.p.now.types in
      let o = operator_of ts c.args.operator in
      let s0 = memory_of ts c.args.m.now in
      let f1 = frame_of ts c.operands.new.f in
      did_halted p ts c.from_residual-in_err-gives.result c.in_err-gives.field-0.0 (operated p c.args.free.capacity o (values_of ts c.as_slice.result.now) s0)
      c.args.f.now c.operands.new.f c.args.m.now c.args.m.now
      (λ g. steps.operate_step p choices (move_of c.args.free) g o c.args.count) c.from_residual-in_err-gives.ensures.1
      (λ g below s.
      c.in_ok-vs.ensures.value ts (λ vs f'. did_step p.hidden g (operated p c.args.free.capacity o vs s0) f' below (with_memory s0 s))
      ∙ ap (λ (xs : List (Bor (List Scalar))). did_step p.hidden g (operated p c.args.free.capacity o (values_of ts xs) s0) f1 below (with_memory s0 s)) (sym c.as_slice.ensures.value))
      c.in_err-gives.ensures.value;
}

pub returns : goal.returns
returns c = record {
  value = λ choices g below s.
      let p = program_view c.args.p.now in
      let ts = places c.args.p.now.types in
      let o = operator_of ts c.args.operator in
      let s0 = memory_of ts c.args.m.now in
      let f1 = frame_of ts c.operands.new.f in
      c.in_ok-vs.ensures.value ts (λ vs f'. did_step p.hidden g (operated p c.args.free.capacity o vs s0) f' below (with_memory s0 s))
      ∙ ap (λ (xs : List (Bor (List Scalar))). did_step p.hidden g (operated p c.args.free.capacity o (values_of ts xs) s0) f1 below (with_memory s0 s)) (sym c.as_slice.ensures.value)
      ∙ did_goes p ts g below s (operated p c.args.free.capacity o (values_of ts c.as_slice.result.now) s0) c.in_ok-gives.gives c.operands.new.f c.give_values.new.f c.args.m.now c.change.new.m
      c.in_ok-gives.ensures.value (c.in_ok-change.ensures.value ts) (c.in_ok-give_values.ensures.value ts);
}
