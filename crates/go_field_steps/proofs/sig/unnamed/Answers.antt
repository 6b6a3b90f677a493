use Rattle.std.proofs.Common.{subst, [], None, false}
use Rattle.go_syntax.specs.Tree as t
use Rattle.go_grammar.specs.ExprSteps as steps
use Rattle.go_frames.specs.FrameView.{Comes, params_part, stack_view, token_of}
use Rattle.go_field_steps.proofs.sig.unnamed.Goals as goal

-- the name as a type
pub returns-in-Ok : goal.returns-in-Ok
returns-in-Ok c = record {
  value =
      subst (λ (e : t.Expr). Comes c.end_param.result (steps.end_param (token_of c.args.at []) (params_part c.args.part) c.args.name.place None false e (stack_view c.args.stack))) c.in-Ok.ensures.value c.end_param.ensures.value;
}
