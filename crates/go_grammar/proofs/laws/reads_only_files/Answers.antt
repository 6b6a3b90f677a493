use Rattle.go_grammar.proofs.ReadsOnly.{reads_only}
use Rattle.go_grammar.proofs.laws.reads_only_files.Goals as goal

-- src/laws.rt:6:1
pub returns : goal.returns
returns c = record { sound = reads_only }
