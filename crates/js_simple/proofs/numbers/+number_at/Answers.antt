use Rattle.std.proofs.Common.{◌∙◌, sym, ap}
use Rattle.js_tree.specs.Value as run
use Rattle.js_code.specs.declared.slots.place.Place.TheVariants.{Local, Global}
use Rattle.js_value.specs.ValueSeen.{whole_of}
use Rattle.js_code.specs.Held.{part_of}
use Rattle.js_value.specs.HeapSeen.{objects_of}
use Rattle.js_simple.proofs.Forms.{part_at}
use Rattle.js_simple.proofs.Quick.{if_some, some_of, slot_gives, operator_gives}
use Rattle.js_simple.proofs.numbers.+number_at.Goals as goal

pub number_at-returns-in-Some : goal.number_at-returns-in-Some
number_at-returns-in-Some t c = record { value = if_some c.part_number.result _ (λ n e p s. part_at c.args.c.now c.in-Some.part c.args.i p _ s (sym c.in-Some.ensures.value) ∙ some_of c.part_number.result _ n (c.part_number.ensures.value c.args.i (sym c.in-Some.ensures.value)) e p s) }

pub array_at-returns-in-Some : goal.array_at-returns-in-Some
array_at-returns-in-Some t c = record { value = if_some c.part_array.result _ (λ n e p s. part_at c.args.c.now c.in-Some.part c.args.i p _ s (sym c.in-Some.ensures.value) ∙ some_of c.part_array.result _ n (c.part_array.ensures.value c.args.i (sym c.in-Some.ensures.value)) e p s) }

pub part_number-returns-in-Local : goal.part_number-returns-in-Local
part_number-returns-in-Local t c = record { value = λ i held. if_some c.slot_number.result _ (λ n e p s. slot_gives c.args.c.now p _ c.args.part i c.in-Local.at c.in-Local.x.now (Local c.in-Local.slot) (whole_of n) s held (ap part_of c.in-Local.is) (some_of c.slot_number.result _ n c.slot_number.ensures.value e)) }

pub part_number-returns-in-Global : goal.part_number-returns-in-Global
part_number-returns-in-Global t c = record { value = λ i held. if_some c.slot_number-in-Global.result _ (λ n e p s. slot_gives c.args.c.now p _ c.args.part i c.in-Global.at c.in-Global.x.now (Global c.in-Global.slot) (whole_of n) s held (ap part_of c.in-Global.is) (some_of c.slot_number-in-Global.result _ n c.slot_number-in-Global.ensures.value e)) }

pub part_array-returns-in-Local : goal.part_array-returns-in-Local
part_array-returns-in-Local t c = record { value = λ i held. if_some c.slot_object.result _ (λ n e p s. slot_gives c.args.c.now p _ c.args.part i c.in-Local.at c.in-Local.x.now (Local c.in-Local.slot) (run.object n) s held (ap part_of c.in-Local.is) (some_of c.slot_object.result _ n c.slot_object.ensures.value e)) }

pub part_array-returns-in-Global : goal.part_array-returns-in-Global
part_array-returns-in-Global t c = record { value = λ i held. if_some c.slot_object-in-Global.result _ (λ n e p s. slot_gives c.args.c.now p _ c.args.part i c.in-Global.at c.in-Global.x.now (Global c.in-Global.slot) (run.object n) s held (ap part_of c.in-Global.is) (some_of c.slot_object-in-Global.result _ n c.slot_object-in-Global.ensures.value e)) }

pub number_of-returns-in-Some-number_at : goal.number_of-returns-in-Some-number_at
number_of-returns-in-Some-number_at t c = record { value = if_some c.computed.result _ (λ n e at p s. operator_gives c.args.c.now p c.args.objects.now at c.args.op c.args.left c.args.right (whole_of c.in-Some-number_at.x) (whole_of c.in-Some.y) (whole_of n) (c.in-Some-number_at.ensures.value p s) (c.in-Some.ensures.value p s) (some_of c.computed.result _ n (c.computed.ensures.value (objects_of c.args.objects.now)) e)) }
