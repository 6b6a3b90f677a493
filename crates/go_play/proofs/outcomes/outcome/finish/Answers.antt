use Rattle.std.proofs.Common.{ap}
use Rattle.go_core.specs.Goroutine as defined
use Rattle.go_core.specs.Goroutine.{exit}
use Rattle.go_play.specs.Outcomes.{with_end}
use Rattle.go_play.proofs.outcomes.outcome.finish.Goals as goal

pub returns : goal.returns
returns c = record { value = λ ts. ap (λ (t : defined.State). with_end (exit 0) t) (c.in_ok-count_move.ensures.value ts) }
