use Rattle.std.proofs.Common.{◌∙◌, ap}
use Rattle.std.specs.Prelude.{Option, is_some}
use Rattle.gj_plain.specs.Plain.{Main, plain_main}
use Rattle.gj_compile.proofs.FrontLemmas.{some_viewed}
use Rattle.gj_compile.proofs.front.is_plain.Goals as goal

pub returns : goal.returns
returns c =
    c.is_some.ensures ∙ some_viewed c.in_ok-main.main ∙ ap (λ (o : Option Main). is_some o) (c.in_ok-main.ensures ∙ ap plain_main c.root_files.ensures.trees)
