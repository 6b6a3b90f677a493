use Rattle.std.proofs.Common.{subst, []}
use Rattle.go_grammar.specs.Frames as f
use Rattle.go_frames.specs.FrameView.{Comes, braces_view, stack_view, token_of}
use Rattle.go_expr_steps.specs.Parts.{after_element}
use Rattle.go_expr_steps.proofs.part.end_element.Goals as goal

pub returns : goal.returns
returns c = record {
  value = subst (λ (all : f.Elems). Comes c.after_element.result (after_element (token_of c.args.at []) (braces_view c.args.braces) all (stack_view c.args.stack))) c.in-Ok.ensures.value c.after_element.ensures.value;
}
