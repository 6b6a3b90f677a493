use Rattle.std.proofs.Common.{true}
use Rattle.go_core.specs.Layout.{a_truth}
use Rattle.go_values.proofs.LayoutSteps.{adds_one}
use Rattle.go_values.proofs.layouts.layout.lay_bool.Goals as goal

pub returns : goal.returns
returns c = record { value = λ ts. adds_one ts c.args.out.now c.push.new.out true c.truth.result a_truth c.in_ok-push.ensures.zeros c.in_ok-push.ensures.flags c.in_ok-push.ensures.composites (c.truth.ensures.value ts) }
