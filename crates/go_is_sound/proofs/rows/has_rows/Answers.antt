use Rattle.go_is_sound.proofs.RowLemmas.{methods_rows}
use Rattle.go_is_sound.proofs.rows.has_rows.Goals as goal

pub returns : goal.returns
returns c = record { is = λ own s e. methods_rows c.args.p.now c.args.t c.args.set.now s (c.have_rows.ensures.is own e) }
