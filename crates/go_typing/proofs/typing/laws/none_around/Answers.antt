use Rattle.go_typing.proofs.Around.{none_around}
use Rattle.go_typing.proofs.typing.laws.none_around.Goals as goal

pub returns : goal.returns
returns _ = record { none = none_around }
