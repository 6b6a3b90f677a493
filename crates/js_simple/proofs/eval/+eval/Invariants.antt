use Rattle.std.proofs.Common.{◌≡◌, ◌+◌, ◌*◌}
use Rattle.js_value.specs.HeapSeen.{values_of}
use Rattle.js_simple.specs.Simple.{AreSimpleAt}
use Rattle.js_simple.specs.Seen.{Point, Stands, world_with}
use Rattle.js_simple.specs.PartDoes.{eval_all_at}
use Rattle.js_simple.proofs.eval.+eval.Given as goal

abbrev pub decreases-eval : goal.decreases-eval
decreases-eval l = 6 * l.depth

abbrev pub decreases-condition : goal.decreases-condition
decreases-condition l = 6 * l.depth + 2

abbrev pub decreases-eval_onto : goal.decreases-eval_onto
decreases-eval_onto l = 6 * l.depth + 3

abbrev pub decreases-unary : goal.decreases-unary
decreases-unary l = 6 * l.depth + 4

abbrev pub decreases-operator : goal.decreases-operator
decreases-operator l = 6 * l.depth + 4

abbrev pub decreases-both : goal.decreases-both
decreases-both l = 6 * l.depth + 4

abbrev pub decreases-either : goal.decreases-either
decreases-either l = 6 * l.depth + 4

abbrev pub decreases-choice : goal.decreases-choice
decreases-choice l = 6 * l.depth + 4

abbrev pub decreases-index : goal.decreases-index
decreases-index l = 6 * l.depth + 4

abbrev pub decreases-length_of : goal.decreases-length_of
decreases-length_of l = 6 * l.depth + 4

abbrev pub decreases-popped : goal.decreases-popped
decreases-popped l = 6 * l.depth + 4

abbrev pub decreases-char_code_at : goal.decreases-char_code_at
decreases-char_code_at l = 6 * l.depth + 4

abbrev pub decreases-substring : goal.decreases-substring
decreases-substring l = 6 * l.depth + 4

abbrev pub decreases-decimal : goal.decreases-decimal
decreases-decimal l = 6 * l.depth + 4

abbrev pub decreases-from_char_code : goal.decreases-from_char_code
decreases-from_char_code l = 6 * l.depth + 4

abbrev pub decreases-array : goal.decreases-array
decreases-array l = 6 * l.depth + 4

abbrev pub decreases-condition_by_value : goal.decreases-condition_by_value
decreases-condition_by_value l = 6 * l.depth + 1

abbrev pub decreases-operator_by_values : goal.decreases-operator_by_values
decreases-operator_by_values l = 6 * l.depth + 3

abbrev pub decreases-evaluate : goal.decreases-evaluate
decreases-evaluate l = 6 * l.depth + 5

-- the values that are there, and those of what is left, are all
abbrev pub invariant-eval_onto-loop-turn : goal.invariant-eval_onto-loop-turn
invariant-eval_onto-loop-turn l =
    AreSimpleAt l.c.code.now l.list
    × ((p : Point) → Stands l.c p
    → eval_all_at l.c (values_of l.initial.values.items) l.first p (world_with l.initial.objects.items p.world)
    ≡ eval_all_at l.c (values_of l.values.items) l.list p (world_with l.objects.items p.world))
