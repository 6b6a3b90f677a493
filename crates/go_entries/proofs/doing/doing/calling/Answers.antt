use Rattle.std.proofs.Common.{ap, ℕ}
use Rattle.go_core.specs.CoreView.{callee_view}
use Rattle.go_core.specs.Goroutine as defined
use Rattle.go_core.specs.Opened as opened
use Rattle.go_entries.proofs.doing.doing.calling.Goals as goal

pub returns : goal.returns
returns c = record { value = λ ts. ap (λ (n : ℕ). defined.call_with (opened.called_of (callee_view ts c.args.callee.now)) n) (c.in_ok-count.ensures.value ts) }
