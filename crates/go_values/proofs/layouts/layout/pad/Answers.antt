use Rattle.std.proofs.Common.{◌∙◌, ◌++◌, ◌∷◌, [], ap}
use Rattle.std.proofs.lemmas.List.{map-append}
use Rattle.go_core.specs.Memory as core
use Rattle.go_values.specs.ValuesSeen.{scalar_of, value_of}
use Rattle.go_values.proofs.layouts.layout.pad.Goals as goal

pub returns-clause-zeros : goal.returns-clause-zeros
returns-clause-zeros c = λ e ts.
    let old = c.args.out.now.zeros.items in
    ap (value_of ts) c.in_ok-push.ensures.zeros ∙ map-append (scalar_of ts) old (c.nil.result ∷ []) ∙ ap (λ (x : core.Scalar). value_of ts old ++ x ∷ []) (c.nil.ensures.value ts)
