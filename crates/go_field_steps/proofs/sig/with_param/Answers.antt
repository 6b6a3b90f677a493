use Rattle.std.proofs.Common.{◌∙◌, ap, map}
use Rattle.go_syntax.specs.Tree as t
use Rattle.go_syntax.specs.View.{expr_view, param_view}
use Rattle.go_frames.specs.FrameView.{params_part}
use Rattle.go_grammar.specs.Frames as f
use Rattle.go_field_steps.proofs.TreeLemmas.{and_view}
use Rattle.go_field_steps.proofs.sig.with_param.Goals as goal

pub returns : goal.returns
returns c = record {
  value =
      ap (λ (items : f.Params). record (params_part c.args.part) { items = items })
      (ap (map param_view) c.in-Ok.ensures.value ∙ and_view param_view c.args.part.items.items c.param-item.result (λ (rest : t.Params). t.MoreParams c.args.place c.args.name c.args.variadic (expr_view c.args.ty) rest) c.param-item.ensures.value);
}
