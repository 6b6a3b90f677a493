use Rattle.std.proofs.Common.{◌∙◌, ap, List, ℕ, Some}
use Rattle.go_grammar.specs.ExprSteps as steps
use Rattle.go_frames.specs.FrameView.{struct_part, untagged_view}
use Rattle.go_field_steps.proofs.field.with_tag.Goals as goal

pub returns : goal.returns
returns c = record {
  value =
      c.in_ok-part.ensures.value ∙ ap (λ (text : List ℕ). steps.with_field (struct_part c.args.part) (untagged_view c.args.field) (Some text)) c.in-Ok.ensures.value;
}
