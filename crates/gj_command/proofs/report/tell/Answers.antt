use Rattle.std.proofs.Common.{sym, ◌∙◌, []}
use Rattle.gj_command.proofs.ToldLemmas.{cut_at}
use Rattle.gj_command.proofs.report.tell.Goals as goal

pub returns-then-is_err : goal.returns-then-is_err
returns-then-is_err g c =
    cut_at c.args.pieces.now c.loop-piece.piece-index (record { ref_ptr = (0, 0); now = [] }) c.loop-piece-test.true c.write.result (g.E.Sink.state c.args.err.now) (g.E.Sink.state c.loop-piece.err) (g.E.Sink.state c.write.new.self)
    (sym c.is_err.ensures.value ∙ c.if-is_err.true) c.loop-piece.invariant c.write.ensures
