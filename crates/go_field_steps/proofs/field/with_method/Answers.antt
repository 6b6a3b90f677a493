use Rattle.std.proofs.Common.{◌∙◌}
use Rattle.go_syntax.specs.Tree as t
use Rattle.go_syntax.specs.View.{sig_view}
use Rattle.go_frames.specs.FrameView.{interface_part}
use Rattle.go_field_steps.proofs.TreeLemmas.{member_is}
use Rattle.go_field_steps.proofs.field.with_method.Goals as goal

pub returns : goal.returns
returns c = record {
  value =
      c.in_ok-part.ensures.value
      ∙ member_is (interface_part c.args.part) c.method_member.result (λ rest. t.MethodMember c.args.name (sig_view c.args.sig) rest) c.method_member.ensures.value;
}
