use Rattle.std.proofs.Common.{subst}
use Rattle.go_grammar.specs.Frames as f
use Rattle.go_grammar.specs.ExprSteps as steps
use Rattle.go_frames.specs.FrameView.{Comes, struct_part, stack_view, token_of}
use Rattle.go_field_steps.proofs.field.embedded_alone.Goals as goal

-- the name as an embedded field
pub returns-in-Ok : goal.returns-in-Ok
returns-in-Ok c = record {
  value =
      subst (λ (x : f.Embedded). Comes c.end_field.result (steps.end_field (token_of c.args.at c.args.text.now) (struct_part c.args.part) (steps.EmbeddedOne x) (stack_view c.args.stack))) c.in-Ok.ensures.value c.end_field.ensures.value;
}
