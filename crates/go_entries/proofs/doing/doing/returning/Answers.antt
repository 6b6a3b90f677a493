use Rattle.std.proofs.Common.{ap, sym, ◌∷◌, ℕ}
use Rattle.go_core.specs.Goroutine as defined
use Rattle.go_entries.proofs.doing.doing.returning.Goals as goal

pub returns : goal.returns
returns c = record { value = λ ts rest. ap (λ (n : ℕ). defined.return_with n ∷ rest) (sym (c.in_ok-count.ensures.value ts)) }
