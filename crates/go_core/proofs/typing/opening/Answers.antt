use Rattle.std.proofs.Common.{refl}
use Rattle.go_core.specs.TypeOf.{listed_types}
use Rattle.go_core.proofs.OpenedExprs.{ev}
use Rattle.go_core.proofs.OpenedStmts.{all}
use Rattle.go_core.proofs.typing.opening.Goals as goal

pub returns : goal.returns
returns c = record {
  exprs = λ p w results had a e st rest s h k. ev p w results e had a st rest s h k;
  stmts = λ p w had a ss rest s h ls k. all p w (listed_types a.results) ss had a rest refl s h ls k;
}
