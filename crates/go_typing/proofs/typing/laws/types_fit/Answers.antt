use Rattle.go_typing.proofs.Fit.{types_fit}
use Rattle.go_typing.proofs.typing.laws.types_fit.Goals as goal

pub returns : goal.returns
returns _ = record { fit = types_fit }
