use Rattle.go_loaded.proofs.Whole.{loaded_are_of_grammar, loaded_have_main}
use Rattle.go_loaded.proofs.laws.loaded.Goals as goal

pub returns : goal.returns
returns c = record { derived = loaded_are_of_grammar c.grammar.ensures.derived; main = loaded_have_main }
