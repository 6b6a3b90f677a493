use Rattle.std.proofs.Common.{vec_len}
use Rattle.go_import.proofs.folder.sorted_go_names.Given as goal

abbrev pub decreases-loop-name : goal.decreases-loop-name
decreases-loop-name l = vec_len l.names
