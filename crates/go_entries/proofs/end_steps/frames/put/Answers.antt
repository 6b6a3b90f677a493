use Rattle.go_entries.proofs.FrameLemmas.{put_above}
use Rattle.go_entries.proofs.end_steps.frames.put.Goals as goal

pub returns : goal.returns
returns c = record { value = λ ts. put_above ts _ _ _ c.in_ok-push.ensures.items }
