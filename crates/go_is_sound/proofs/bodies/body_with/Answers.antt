use Rattle.std.proofs.Common.{◌∙◌}
use Rattle.go_is_sound.proofs.BodyLemmas.{body_judged}
use Rattle.go_is_sound.proofs.bodies.body_with.Goals as goal

pub returns : goal.returns
returns c = record {
  is = λ h.
      let j = c.judge_of-judge.result in
      body_judged c.stmts.result c.args.f.now.body c.args.head.now c.args.captured.now j c.head_round-round.result c.args.p.now c.args.own.now c.args.f.now.sig.results
      (c.head_round-round.ensures.is j) c.judge_of-judge.ensures.program c.judge_of-judge.ensures.declarable (c.judge_of-judge.ensures.results ∙ c.as_slice.ensures)
      (c.stmts.ensures.is (c.judge_of-judge.ensures.knows h));
}
