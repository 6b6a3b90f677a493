use Rattle.std.proofs.Common.{◌∙◌, ap, List, ◌++◌, map}
use Rattle.go_operands.specs.AnswerView.{flaw_view}
use Rattle.go_typing.specs.Answer.{Flaw}
use Rattle.go_decls.proofs.decls.constants.value_told.Goals as goal

pub returns : goal.returns
returns c = record {
  told = c.in_ok-move_flaws.ensures.told ∙ ap (λ (fs : List Flaw). map flaw_view c.args.flaws.now.items ++ fs) c.in_ok-found.ensures.told;
  grows = c.in_ok-found.ensures.grows;
}
