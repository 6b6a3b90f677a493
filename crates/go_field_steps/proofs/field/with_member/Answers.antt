use Rattle.std.proofs.Common.{refl}
use Rattle.go_frames.specs.FrameView.{interface_part}
use Rattle.go_field_steps.proofs.TreeLemmas.{and_member}
use Rattle.go_field_steps.proofs.field.with_member.Goals as goal

pub returns : goal.returns
returns c = record {
  value =
      and_member (interface_part c.args.part) c.args.part.members.items c.in_ok-members.members.items c.args.member refl c.in_ok-members.ensures.value;
}
