use Rattle.std.proofs.Common.{sym, ap, List}
use Rattle.go_core.specs.Did.{gives}
use Rattle.go_core.specs.Memory.{Value}
use Rattle.go_slices.proofs.composites.interfaces.holds.Goals as goal

pub returns : goal.returns
returns c = record { value = λ ts m. ap (λ (vs : List Value). gives vs m c.args.units) (sym (c.in_ok-values.ensures.value ts)) }
