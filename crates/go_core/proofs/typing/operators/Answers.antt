use Rattle.go_core.proofs.OperatorsAll.{all}
use Rattle.go_core.proofs.typing.operators.Goals as goal

pub returns : goal.returns
returns c = record { operators = λ p wanted w m o ins outs vs sound gl mt a h. all p sound w m mt o ins outs wanted vs gl a h }
