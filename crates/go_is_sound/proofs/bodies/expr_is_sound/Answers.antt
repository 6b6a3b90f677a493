use Rattle.std.proofs.Common.{[]}
use Rattle.go_is_sound.proofs.BodyLemmas.{expr_judged}
use Rattle.go_is_sound.proofs.bodies.expr_is_sound.Goals as goal

pub returns : goal.returns
returns c = record {
  is = λ h e.
      let j = c.judge_of-judge.result in
      expr_judged c.args.e.now j c.head_round-round.result c.args.p.now c.args.own.now [] (c.head_round-round.ensures.is j) c.judge_of-judge.ensures.program c.judge_of-judge.ensures.declarable c.judge_of-judge.ensures.results
      (c.expr.ensures.is (c.judge_of-judge.ensures.knows h) e);
}
