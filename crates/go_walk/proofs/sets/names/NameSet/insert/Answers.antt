use Rattle.std.proofs.Common.{◌∙◌, ap}
use Rattle.std.specs.Prelude.{bytes_eq}
use Rattle.std.specs.List.{list_any}
use Rattle.go_walk.proofs.SetsHasLemmas.{name_inserted}
use Rattle.go_walk.proofs.sets.names.NameSet.insert.Goals as goal

pub returns-clause-value : goal.returns-clause-value
returns-clause-value c = λ y. ap (list_any (λ k. bytes_eq y k.now)) c.in_ok-insert.ensures.keys ∙ name_inserted c.args.self.now.names.keys c.args.x y
