use Rattle.go_loaded.proofs.Files.{files_are_of_grammar}
use Rattle.go_loaded.proofs.laws.grammar.Goals as goal

pub returns : goal.returns
returns c = record { derived = files_are_of_grammar }
