use Rattle.std.proofs.Common.{length, ◌-◌, ◌≡◌, ◌+◌, min, drop}
use Rattle.go_lexer.specs.Runs.{run_after, width_of}
use Rattle.go_lexer.proofs.run.run_len.Given as goal

abbrev pub invariant-loop-n : goal.invariant-loop-n
invariant-loop-n l = run_after (width_of l.class) 0 l.text ≡ min l.n (length l.text) + run_after (width_of l.class) 0 (drop l.n l.text)

abbrev pub decreases-loop-n : goal.decreases-loop-n
decreases-loop-n l = length l.text - l.n
