use Rattle.gj_command.proofs.CommandLemmas.{told_from}
use Rattle.gj_command.proofs.exec.exec_script.Goals as goal

pub returns-in-Err : goal.returns-in-Err
returns-in-Err g c = (c.tell_stuck.ensures.0, λ named. absurd (cc), told_from c.tell_stuck.ensures.0 (g.E.Sink.state c.args.err.now) (g.E.Sink.state c.run_script.new.err) (g.E.Sink.state c.tell_stuck.new.err) c.in-Err.ensures c.tell_stuck.ensures.1)
