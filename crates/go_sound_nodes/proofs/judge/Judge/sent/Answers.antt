use Rattle.go_sound_nodes.proofs.judge.Judge.sent.Goals as goal

pub returns-then-expr : goal.returns-then-expr
returns-then-expr c = record {
  is = λ known h.
      let s = c.sent_fits.ensures.is h in
      (c.expr.ensures.is known c.if-expr.true, s.0, s.1, s.2);
}
