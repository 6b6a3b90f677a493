use Rattle.std.proofs.Common.{◌∙◌, ap, sym}
use Rattle.std.specs.Prelude.{bytes_eq}
use Rattle.std.specs.Map.{lookup}
use Rattle.go_walk.proofs.SetsHasLemmas.{number_inserted, none_of}
use Rattle.go_walk.proofs.sets.numbers.NameMap.insert.Goals as goal

pub returns-clause-value : goal.returns-clause-value
returns-clause-value c = λ y.
    ap (lookup (λ k. bytes_eq y k.now)) c.in_ok-insert.ensures.entries
    ∙ number_inserted c.args.self.now.numbers.entries c.args.x c.args.number y (none_of (lookup (λ k. bytes_eq c.args.x.now k.now) c.args.self.now.numbers.entries) (sym c.contains_key.ensures ∙ c.if-contains_key.false))
