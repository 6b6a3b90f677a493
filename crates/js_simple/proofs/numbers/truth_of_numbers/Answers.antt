use Rattle.js_tree.specs.Value.{truth}
use Rattle.js_value.specs.ValueSeen.{whole_of}
use Rattle.js_value.specs.HeapSeen.{objects_of}
use Rattle.js_simple.proofs.Quick.{if_some, some_of, operator_gives}
use Rattle.js_simple.proofs.numbers.truth_of_numbers.Goals as goal

pub returns-in-Some-number_at : goal.returns-in-Some-number_at
returns-in-Some-number_at c = record { value = if_some c.compared.result _ (λ b e at p s. operator_gives c.args.c.now p c.args.objects.now at c.args.op c.args.left c.args.right (whole_of c.in-Some-number_at.x) (whole_of c.in-Some.y) (truth b) (c.in-Some-number_at.ensures.value p s) (c.in-Some.ensures.value p s) (some_of c.compared.result _ b (c.compared.ensures.value (objects_of c.args.objects.now)) e)) }
