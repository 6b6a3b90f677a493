use Rattle.std.proofs.Common.{sym, subst, List, ℕ}
use Rattle.std.specs.Prelude.{All}
use Rattle.std.proofs.lemmas.List.Elements.{All-push}
use Rattle.gj_base.specs.Tree.{IsName}
use Rattle.gj_outside.proofs.disk.push_name.Goals as goal

pub returns-clause-value : goal.returns-clause-value
returns-clause-value c = λ all. subst (λ (names : List (List ℕ)). All IsName names) (sym c.in-Ok.ensures.items) (All-push IsName c.args.names.now.items c.in_ok-name.name all c.in_ok-name.ensures.value)
