use Rattle.std.proofs.Common.{◌∙◌, sym}
use Rattle.js_simple.proofs.Forms.{part_at}
use Rattle.js_simple.proofs.Quick.{if_some, some_of}
use Rattle.js_simple.proofs.numbers.truth_at.Goals as goal

pub returns-in-Some : goal.returns-in-Some
returns-in-Some c = record { value = if_some c.part_truth.result _ (λ b e p s. part_at c.args.c.now c.in-Some.part c.args.i p _ s (sym c.in-Some.ensures.value) ∙ some_of c.part_truth.result _ b c.part_truth.ensures.value e p s) }
