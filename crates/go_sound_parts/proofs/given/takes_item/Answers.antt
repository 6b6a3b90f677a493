use Rattle.std.proofs.Common.{sym}
use Rattle.go_sound_parts.proofs.given.takes_item.Goals as goal

pub returns : goal.returns
returns c = record { is = λ h. sym (c.is_item.ensures.is h) }
