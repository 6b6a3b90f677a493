use Rattle.std.proofs.Common.{ap, sym, ◌∷◌, ℕ}
use Rattle.go_core.specs.CoreView.{callee_view}
use Rattle.go_core.specs.Goroutine as defined
use Rattle.go_core.specs.Opened as opened
use Rattle.go_entries.proofs.doing.doing.starting.Goals as goal

pub returns : goal.returns
returns c = record { value = λ ts rest. ap (λ (n : ℕ). defined.go_with (opened.called_of (callee_view ts c.args.callee.now)) n ∷ rest) (sym (c.in_ok-count.ensures.value ts)) }
