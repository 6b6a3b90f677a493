use Rattle.go_core.specs.StepSlices.{in_bounds}
use Rattle.go_slices.proofs.SlicesFoundLemmas.{part_stopped, part_same}
use Rattle.go_slices.proofs.slices.slicing.part_of.Goals as goal

pub returns-in_err-b : goal.returns-in_err-b
returns-in_err-b c = record { value = λ ts. part_stopped c.from_residual.result _ _ c.from_residual.ensures.1 (λ f. c.in_err-b.ensures.value ts (λ b. in_bounds b c.args.capacity f)) }

pub returns : goal.returns
returns c = record { value = λ ts. part_same c.part_in.result _ _ (λ f. c.in_ok-b.ensures.value ts (λ b. in_bounds b c.args.capacity f)) c.part_in.ensures.value }
