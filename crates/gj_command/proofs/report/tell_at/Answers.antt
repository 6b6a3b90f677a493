use Rattle.std.proofs.Common.{List, ℕ, subst}
use Rattle.gj_base.specs.LineColumn.{line_and_column}
use Rattle.gj_command.specs.FaultText.{line_at}
use Rattle.gj_command.specs.Told.{Told}
use Rattle.gj_command.proofs.report.tell_at.Goals as goal

pub returns : goal.returns
returns g c =
    subst (λ (name : List ℕ). Told (line_at name (line_and_column c.args.entry.now.bytes c.args.offset) c.args.text.now) (g.E.Sink.state c.args.err.now) (g.E.Sink.state c.tell_in.new.err)) c.as_bytes.ensures
    (subst (λ (bytes : List ℕ). Told (line_at c.as_bytes.result.now (line_and_column bytes c.args.offset) c.args.text.now) (g.E.Sink.state c.args.err.now) (g.E.Sink.state c.tell_in.new.err)) c.as_bytes-2.ensures c.tell_in.ensures)
