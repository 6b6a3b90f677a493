use Rattle.go_core.specs.Layout.{a_pointer}
use Rattle.go_values.proofs.LayoutSteps.{adds_one}
use Rattle.go_values.proofs.layouts.layout.lay_pointer.Goals as goal

pub returns : goal.returns
returns c = record { value = λ ts. adds_one ts c.args.out.now c.push.new.out c.args.looked c.nil.result a_pointer c.in_ok-push.ensures.zeros c.in_ok-push.ensures.flags c.in_ok-push.ensures.composites (c.nil.ensures.value ts) }
