use Rattle.std.proofs.Common.{◌∷◌, [], sym, ap}
use Rattle.go_core.specs.Did.{gives}
use Rattle.go_core.specs.Memory.{Value}
use Rattle.go_values.proofs.operators.did.gives_one.Goals as goal

pub returns : goal.returns
returns c = record { value = λ ts m. ap (λ (v : Value). gives (v ∷ []) m c.args.units) (sym (c.in_ok-v.ensures.value ts)) }
