use Rattle.std.proofs.Common.{sym, ◌∙◌}
use Rattle.go_lexer.specs.Runs.{width_of, run_len}
use Rattle.go_lexer.proofs.RunLemmas.{run_after-turn, run_after-end, run_after-all}
use Rattle.go_lexer.proofs.run.run_len.Goals as goal
use Rattle.go_lexer.proofs.run.run_len.Goals.{else-loop-n-test, then-loop-n-test+then-more-eq0}

pub loop-n-preserved : goal.loop-n-preserved
loop-n-preserved c = run_after-turn (width_of c.args.class) c.args.text.now c.loop-n.n c.width-more.result c.loop-n-test.true c.width-more.ensures.value c.loop-n.invariant c.if-more-eq0.false

pub returns-clause-value : goal.returns-clause-value
unfolding run_len
returns-clause-value c =
    elim c.loop-n-test.branch [
      | else-loop-n-test w ↦ c.min.ensures ∙ sym (run_after-all (width_of c.args.class) c.args.text.now c.loop-n.n w.loop-n-test.false c.loop-n.invariant)
      | then-loop-n-test+then-more-eq0 w ↦ c.min.ensures ∙ sym (run_after-end (width_of c.args.class) c.args.text.now c.loop-n.n w.width-more.result w.loop-n-test.true w.width-more.ensures.value c.loop-n.invariant w.if-more-eq0.true)
    ]
