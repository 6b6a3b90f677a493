use Rattle.std.proofs.Common.{◌≡◌, length}
use Rattle.go_import.proofs.folder.read_folder.Given as goal

abbrev pub invariant-loop-name : goal.invariant-loop-name
invariant-loop-name g l = g.F.Files.state l.files ≡ g.F.Files.state l.fn.files

abbrev pub decreases-loop-name : goal.decreases-loop-name
decreases-loop-name g l = length l.names.keys
