use Rattle.go_mentions.proofs.BoxedLemmas as boxes
use Rattle.go_mentions.proofs.laws.boxed_rows.Goals as goal

pub returns : goal.returns
returns c = record { rows = record { of_the_function = boxes.of_the_function; of_the_literal = boxes.of_the_literal } }
