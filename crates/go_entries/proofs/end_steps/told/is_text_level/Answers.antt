use Rattle.go_entries.proofs.SignatureLemmas.{no_text}
use Rattle.go_entries.proofs.end_steps.told.is_text_level.Goals as goal

pub returns-in_default : goal.returns-in_default
returns-in_default c = record { value = λ ts. no_text ts c.args.g.now c.in_default.not-Str }
