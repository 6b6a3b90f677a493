use Rattle.std.proofs.Common.{◌∙◌, drop}
use Rattle.go_typing.specs.Walk.{all_used}
use Rattle.go_walk.proofs.walk.parts.all_used.Goals as goal

pub returns : goal.returns
returns c = record {
  value = c.all_in.ensures.value c.as_slice.result.now c.in_ok-used.ensures.value ∙ (λ j. all_used (drop c.args.from (c.as_slice-2.ensures.value j)) (c.as_slice.ensures.value j));
}
