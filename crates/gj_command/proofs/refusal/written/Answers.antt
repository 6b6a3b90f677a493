use Rattle.std.proofs.Common.{[], inl}
use Rattle.gj_command.proofs.TopLemmas.{appended-nil}
use Rattle.gj_command.proofs.refusal.written.Goals as goal

pub returns-in-Ok : goal.returns-in-Ok
returns-in-Ok g c = ([], λ named. absurd (cc), inl (appended-nil (g.E.Sink.state c.args.err.now)))
