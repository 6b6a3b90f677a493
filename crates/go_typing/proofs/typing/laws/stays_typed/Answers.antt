use Rattle.go_typing.proofs.More.{stays_typed}
use Rattle.go_typing.proofs.typing.laws.stays_typed.Goals as goal

pub returns : goal.returns
returns _ = record { stays = stays_typed }
