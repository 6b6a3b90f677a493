use Rattle.go_sound_nodes.proofs.judge.Judge.switches.Goals as goal

pub returns-then-is_new : goal.returns-then-is_new
returns-then-is_new c = record {
  is = λ known h.
      let t = c.chooses.ensures.is known h in
      (c.is_new.ensures.is c.if-is_new.true, t.0, t.1);
}
