use Rattle.std.proofs.Common.{◌≡◌, drop}
use Rattle.go_grammar.specs.Parsed.{run, parsed}
use Rattle.go_frames.specs.FrameView.{stack_view}
use Rattle.go_parser.proofs.run.read.Given as goal

-- the tokens that are left come to what all come to
abbrev pub invariant-loop-i : goal.invariant-loop-i
invariant-loop-i l = run (drop l.i l.tokens.tokens) (stack_view l.stack) ≡ parsed l.tokens.tokens
