use Rattle.go_is_sound.proofs.RowLemmas.{mark_more}
use Rattle.go_is_sound.proofs.rows.mark.Goals as goal

pub returns-then-at-len : goal.returns-then-at-len
returns-then-at-len c = record { is = λ q h d. mark_more q c.args.done.now.items c.args.at h d }
