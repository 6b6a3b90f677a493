use Rattle.std.proofs.Common.{◌≡◌}
use Rattle.go_import.proofs.follow.follow_file.Given as goal

abbrev pub invariant-loop-import : goal.invariant-loop-import
invariant-loop-import g l = g.F.Files.state l.files ≡ g.F.Files.state l.fn.files
