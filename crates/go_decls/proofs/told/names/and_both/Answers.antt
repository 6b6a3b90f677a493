use Rattle.std.proofs.Common.{◌∙◌, ap, List, ◌++◌}
use Rattle.go_typing.specs.Answer.{Flaw}
use Rattle.go_typing.specs.Told.{init_told}
use Rattle.go_decls.proofs.told.names.and_both.Goals as goal

pub returns : goal.returns
returns c = record {
  told = λ bs h. c.in_ok-init_told.ensures.told ∙ ap (λ (fs : List Flaw). fs ++ init_told c.args.n.now) (c.in_ok-and_name.ensures.told bs h);
  seen = c.in_ok-and_name.ensures.seen;
}
