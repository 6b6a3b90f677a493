-- What the machine reads is a file within the limits.
use Rattle.go_grammar.specs.Laws.{ReadsOnlyFiles}
use Rattle.go_grammar.proofs.Sound.{parsed_sound}
use Rattle.go_grammar.proofs.FitSound.{parsed_fits}

pub reads_only : ReadsOnlyFiles
reads_only us x q = (parsed_sound us x q, parsed_fits us x q)
