use Rattle.std.proofs.Common.{◌∙◌, [], sym, ap, ℕ}
use Rattle.go_type.specs.Table.{places}
use Rattle.go_core.specs.Did.{gives}
use Rattle.go_slices.proofs.maps.maps.deleted_of_nil.Goals as goal

pub returns : goal.returns
returns c = record { value = λ key m. ap (λ (n : ℕ). gives [] m n) (sym c.in_ok-units.ensures.value) ∙ sym (c.gives_change.ensures.value (places c.args.c.now.table.now) m) }
