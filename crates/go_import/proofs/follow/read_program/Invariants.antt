use Rattle.std.proofs.Common.{◌≡◌}
use Rattle.go_import.proofs.follow.read_program.Given as goal

abbrev pub invariant-loop-file : goal.invariant-loop-file
invariant-loop-file g l = g.F.Files.state l.files ≡ g.F.Files.state l.fn.files
