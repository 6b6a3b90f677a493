use Rattle.std.proofs.Common.{subst, []}
use Rattle.go_grammar.specs.Frames as f
use Rattle.go_frames.specs.FrameView.{Comes, stack_view, token_of}
use Rattle.go_field_steps.specs.Parts.{after_param}
use Rattle.go_field_steps.proofs.sig.end_param.Goals as goal

pub returns : goal.returns
returns c = record {
  value = subst (λ (x : f.ParamsPart). Comes c.after_param.result (after_param (token_of c.args.at []) x (stack_view c.args.stack))) c.in-Ok.ensures.value c.after_param.ensures.value;
}
