use Rattle.std.proofs.Common.{ℕ, subst}
use Rattle.gj_command.specs.FaultText.{line_at}
use Rattle.gj_command.specs.Told.{Told}
use Rattle.gj_command.proofs.report.tell_in.Goals as goal

pub returns : goal.returns
returns g c =
    subst (λ (place : ℕ × ℕ). Told (line_at c.args.name.now place c.args.text.now) (g.E.Sink.state c.args.err.now) (g.E.Sink.state c.tell_place.new.err)) c.place_in-line.ensures c.tell_place.ensures
