use Rattle.std.proofs.Common.{refl}
use Rattle.go_frames.specs.FrameView.{struct_part, untagged_view}
use Rattle.go_field_steps.proofs.TreeLemmas.{and_field}
use Rattle.go_field_steps.proofs.field.with_field.Goals as goal

pub returns : goal.returns
returns c = record {
  value =
      and_field (struct_part c.args.part) c.args.part.fields.items c.in_ok-fields.fields.items c.tagged-field.result (untagged_view c.args.field) c.args.tag refl c.in_ok-fields.ensures.value c.tagged-field.ensures.value;
}
