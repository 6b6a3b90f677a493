use Rattle.gj_command.specs.Headline.{internal_line}
use Rattle.gj_command.specs.declared.outcome.Outcome.TheVariants as outcome
use Rattle.gj_command.proofs.CommandLemmas.{is_no_usage, told_from}
use Rattle.gj_command.proofs.run.run_compiled.Goals as goal

pub returns-in-Err : goal.returns-in-Err
returns-in-Err g c = (
  internal_line,
  is_no_usage c.internal.result outcome.Internal c.internal.ensures.value (λ named. absurd (cc)),
  told_from internal_line (g.E.Sink.state c.args.err.now) (g.E.Sink.state c.run_script.new.err) (g.E.Sink.state c.internal.new.err) c.in-Err.ensures c.internal.ensures.told,
)
