use Rattle.go_typing.proofs.Exact.{lists_exactly_at}
use Rattle.go_typing.proofs.typing.laws.lists_exactly_at.Goals as goal

pub returns : goal.returns
returns _ = record { exact = lists_exactly_at }
