use Rattle.go_sound_nodes.proofs.judge.Judge.receives.Goals as goal

pub returns-then-operand : goal.returns-then-operand
returns-then-operand c = record {
  is = λ known h.
      let o = c.operand.ensures.is known c.if-operand.true in
      let g = c.goes_to.ensures.is h in
      (o.0, o.1, g.0, g.1, g.2, g.3);
}
