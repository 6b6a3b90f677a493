use Rattle.std.proofs.Common.{ap, sym, ◌∷◌, ℕ}
use Rattle.go_core.specs.CoreView.{stmts_view}
use Rattle.go_core.specs.Goroutine as defined
use Rattle.go_core.specs.Opened as opened
use Rattle.go_state.specs.TasksSeen.{cases_view}
use Rattle.go_entries.proofs.doing.doing.selecting.Goals as goal

pub returns : goal.returns
returns c = record { value = λ ts rest. ap (λ (n : ℕ). defined.select_from c.args.label.0 (opened.cases_of (cases_view ts c.args.cases.now)) n c.args.has_default (stmts_view ts c.args.default.now) ∷ rest) (sym (c.in_ok-count.ensures.value ts)) }
