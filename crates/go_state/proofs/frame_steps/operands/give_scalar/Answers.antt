use Rattle.std.proofs.Common.{ap, ◌∙◌, ◌∷◌, []}
use Rattle.go_core.specs.Memory.{Value}
use Rattle.go_core.specs.Frames.{with_more}
use Rattle.std.proofs.lemmas.Result.{on_ok_weaker}
use Rattle.go_state.specs.StateSeen.{frame_of}
use Rattle.go_state.proofs.frame_steps.operands.give_scalar.Goals as goal

pub returns : goal.returns
returns c = record {
  value = on_ok_weaker c.give.result (λ h ts. h ts ∙ ap (λ (v : Value). with_more (v ∷ []) (frame_of ts c.args.f.now)) (c.in_ok-v.ensures.value ts)) c.give.ensures.value;
}
