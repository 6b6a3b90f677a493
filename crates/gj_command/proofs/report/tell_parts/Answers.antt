use Rattle.std.proofs.Common.{List, ℕ, subst}
use Rattle.gj_command.specs.Told.{Told}
use Rattle.gj_command.proofs.ToldLemmas.{line_of_pieces}
use Rattle.gj_command.proofs.report.tell_parts.Goals as goal

pub returns : goal.returns
returns g c = subst (λ (line : List ℕ). Told line (g.E.Sink.state c.args.err.now) (g.E.Sink.state c.tell.new.err)) (line_of_pieces c.args.name.now c.args.line.now c.args.column.now c.args.text.now) c.tell.ensures
