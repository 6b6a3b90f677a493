use Rattle.std.proofs.Common.{◌∙◌, ap}
use Rattle.go_syntax.specs.Tree as t
use Rattle.go_syntax.specs.View.{expr_view}
use Rattle.go_grammar.specs.ExprSteps as steps
use Rattle.go_frames.specs.FrameView.{interface_part}
use Rattle.go_field_steps.proofs.TreeLemmas.{member_is}
use Rattle.go_field_steps.proofs.field.with_named.Goals as goal

pub returns : goal.returns
returns c = record {
  value =
      let part = interface_part c.args.part in
      c.in_ok-part.ensures.value
      ∙ member_is part c.embedded_member.result (λ rest. t.EmbeddedMember (expr_view c.in-Ok.ty) rest) c.embedded_member.ensures.value
      ∙ ap (λ (e : t.Expr). steps.with_member part (λ rest. t.EmbeddedMember e rest)) c.in-Ok.ensures.value;
}
