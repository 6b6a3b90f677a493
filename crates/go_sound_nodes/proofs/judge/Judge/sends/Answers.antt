use Rattle.go_sound_nodes.proofs.judge.Judge.sends.Goals as goal

pub returns-then-operand : goal.returns-then-operand
returns-then-operand c = record {
  is = λ known h.
      let o = c.operand.ensures.is known c.if-operand.true in
      let s = c.sent.ensures.is known h in
      (o.0, s.0, o.1, s.1, s.2, s.3);
}
