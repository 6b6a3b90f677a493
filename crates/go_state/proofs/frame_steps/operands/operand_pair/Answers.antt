use Rattle.std.proofs.Common.{sym, subst, ◌∙◌}
use Rattle.std.specs.Prelude.{Option}
use Rattle.go_core.specs.Goroutine.{State}
use Rattle.go_core.specs.Frames.{on_pair, on_operand}
use Rattle.go_values.specs.ValuesSeen.{value_of}
use Rattle.go_state.specs.StateSeen.{frame_of}
use Rattle.go_state.specs.FrameStepsFound.{NoStep}
use Rattle.go_state.proofs.FrameLemmas.{pair_by_one, pair_missed}
use Rattle.go_state.proofs.frame_steps.operands.operand_pair.Goals as goal

pub returns-in_err-right : goal.returns-in_err-right
returns-in_err-right c = record {
  value = λ ts.
      let f = frame_of ts c.args.f.now in
      let x = c.in_err-right.field-0.0 in
      pair_missed ts c.from_residual.result x c.operand.new.f (on_pair f) c.from_residual.ensures.1
      (λ k. subst (λ (o : Option State). NoStep x o) (sym (pair_by_one f k)) (c.in_err-right.ensures.value ts (λ y f'. on_operand f' (λ v f''. k v y f''))));
}

pub returns-in_err-left : goal.returns-in_err-left
returns-in_err-left c = record {
  value = λ ts.
      let f = frame_of ts c.args.f.now in
      let x = c.in_err-left.field-0.0 in
      let y = value_of ts c.in_ok-right.right.now in
      pair_missed ts c.from_residual-in_err-left.result x c.operand-2.new.f (on_pair f) c.from_residual-in_err-left.ensures.1
      (λ k. subst (λ (o : Option State). NoStep x o) (sym (pair_by_one f k ∙ c.in_ok-right.ensures.value ts (λ w f'. on_operand f' (λ v f''. k v w f'')))) (c.in_err-left.ensures.value ts (λ v f''. k v y f'')));
}

pub returns : goal.returns
returns c = record {
  value = λ ts k.
      let y = value_of ts c.in_ok-right.right.now in
      pair_by_one (frame_of ts c.args.f.now) k ∙ c.in_ok-right.ensures.value ts (λ w f'. on_operand f' (λ v f''. k v w f'')) ∙ c.in_ok-left.ensures.value ts (λ v f''. k v y f'');
}
