use Rattle.go_sound_nodes.proofs.judge.Judge.operand.Goals as goal

pub returns-then-expr : goal.returns-then-expr
returns-then-expr c = record { is = λ known h. (c.expr.ensures.is known c.if-expr.true, c.gives.ensures.is h) }
