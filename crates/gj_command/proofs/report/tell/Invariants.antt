use Rattle.std.proofs.Common.{◌≡◌, flat_map, take}
use Rattle.gj_base.specs.Sink.{appended}
use Rattle.gj_command.proofs.report.tell.Given as goal

-- the pieces so far were written
abbrev pub invariant-loop-piece : goal.invariant-loop-piece
invariant-loop-piece g l = g.E.Sink.state l.err ≡ appended (g.E.Sink.state l.initial.err) (flat_map (λ piece. piece.now) (take l.piece-index l.pieces))
