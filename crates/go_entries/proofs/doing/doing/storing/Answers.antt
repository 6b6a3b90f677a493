use Rattle.std.proofs.Common.{ap, sym, ◌∷◌, ℕ, map}
use Rattle.go_core.specs.CoreView.{target_view}
use Rattle.go_core.specs.Goroutine as defined
use Rattle.go_entries.proofs.doing.doing.storing.Goals as goal

pub returns : goal.returns
returns c = record { value = λ ts rest. ap (λ (n : ℕ). defined.assign (map (target_view ts) c.args.targets.now.items.items) n ∷ rest) (sym (c.in_ok-count.ensures.value ts)) }
