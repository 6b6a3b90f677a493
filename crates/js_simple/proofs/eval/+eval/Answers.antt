use Rattle.std.proofs.Common.{◌∙◌, sym, ap, arith, [], ◌∷◌, Some}
use Rattle.std.proofs.lemmas.List.{map-append}
use Rattle.js_code.specs.declared.slots.place.Place.TheVariants.{Caught, Local, Global, Nowhere}
use Rattle.js_tree.specs.Value.{and_then}
use Rattle.js_tree.specs.Evaluate.{truth_of}
use Rattle.js_code.specs.Held.{part_of}
use Rattle.js_value.specs.HeapSeen.{value_of, values_of}
use Rattle.js_simple.proofs.Follows.{stops_then, stops_as, gives_as, stopped, value_goes, condition_stops, condition_true, condition_false, condition_is_true, condition_is_false, after_none, stops_onto}
use Rattle.js_simple.proofs.Forms.{part_is, part_gives, part_at, part_missing, is_simple_part, name_is, name_does, function_is, host_is}
use Rattle.js_simple.proofs.Lists.{first_simple, rest_simple, list_does, list_more, list_ends}
use Rattle.js_simple.proofs.eval.+eval.Goals as goal

pub eval-evaluate-requires : goal.eval-evaluate-requires
eval-evaluate-requires t c = (omega arith, is_simple_part c.args.c.now c.args.i c.in-Some.part c.args.c.now.sound (sym c.in-Some.ensures.value) c.requires.simple)

pub eval-returns-in-Some : goal.eval-returns-in-Some
eval-returns-in-Some t c = record { value = λ p s. gives_as value_of _ _ _ _ (part_at c.args.c.now c.in-Some.part c.args.i p _ s (sym c.in-Some.ensures.value)) (c.evaluate.ensures.value p s) }

pub eval-returns-in-None : goal.eval-returns-in-None
eval-returns-in-None t c = record { value = λ p s. part_missing c.args.c.now c.args.i p _ (sym c.in-None.ensures.value) }

pub condition_by_value-returns-in_err-v : goal.condition_by_value-returns-in_err-v
condition_by_value-returns-in_err-v t c = record { value = λ p s. stopped _ c.from_residual.result _ _ _ c.from_residual.ensures.1 (stops_then _ _ _ _ (c.in_err-v.ensures.value p s)) }

pub condition_by_value-returns : goal.condition_by_value-returns
condition_by_value-returns t c = record { value = λ p s. value_goes _ _ _ _ _ _ _ (c.in_ok-v.ensures.value p s) (c.truth_of.ensures.value _) }

pub evaluate-returns-in-Number : goal.evaluate-returns-in-Number
evaluate-returns-in-Number t c = record { value = λ p s. part_is c.args.c.now c.args.part _ _ p _ _ c.in-Number.is (c.number.ensures.value _) }

pub evaluate-returns-in-Str : goal.evaluate-returns-in-Str
evaluate-returns-in-Str t c = record { value = λ p s. part_gives c.args.c.now c.args.part _ p _ c.in-Str.is }

pub evaluate-returns-in-Bool : goal.evaluate-returns-in-Bool
evaluate-returns-in-Bool t c = record { value = λ p s. part_gives c.args.c.now c.args.part _ p _ c.in-Bool.is }

pub evaluate-returns-in-Null : goal.evaluate-returns-in-Null
evaluate-returns-in-Null t c = record { value = λ p s. part_gives c.args.c.now c.args.part _ p _ c.in-Null.is }

pub evaluate-returns-in-Caught : goal.evaluate-returns-in-Caught
evaluate-returns-in-Caught t c = record { value = λ p s. name_does c.args.c.now p _ c.args.part c.in-Caught.at c.in-Caught.x.now Caught _ s c.requires.simple (ap part_of c.in-Caught.is) (c.given.ensures.value _) }

pub evaluate-returns-in-Local : goal.evaluate-returns-in-Local
evaluate-returns-in-Local t c = record { value = λ p s. name_does c.args.c.now p _ c.args.part c.in-Local.at c.in-Local.x.now (Local c.in-Local.slot) _ s c.requires.simple (ap part_of c.in-Local.is) (c.local.ensures.value _) }

pub evaluate-returns-in-Global : goal.evaluate-returns-in-Global
evaluate-returns-in-Global t c = record { value = λ p s. name_does c.args.c.now p _ c.args.part c.in-Global.at c.in-Global.x.now (Global c.in-Global.slot) _ s c.requires.simple (ap part_of c.in-Global.is) (c.global.ensures.value _) }

pub evaluate-returns-in-Function : goal.evaluate-returns-in-Function
evaluate-returns-in-Function t c = record { value = λ p s. function_is c.args.c.now p _ c.args.part c.in-Function.at c.in-Function.number c.in-Function.x.now s c.requires.simple (ap part_of c.in-Function.is) }

pub evaluate-returns-in-Host : goal.evaluate-returns-in-Host
evaluate-returns-in-Host t c = record { value = λ p s. host_is c.args.c.now p _ c.args.part c.in-Host.at c.in-Host.host c.in-Host.x.now s c.requires.simple (ap part_of c.in-Host.is) }

pub evaluate-returns-in-Nowhere : goal.evaluate-returns-in-Nowhere
evaluate-returns-in-Nowhere t c = record { value = λ p s. name_is c.args.c.now p _ c.args.part c.in-Nowhere.at c.in-Nowhere.x.now Nowhere s c.requires.simple (ap part_of c.in-Nowhere.is) }

pub eval_onto-eval-requires : goal.eval_onto-eval-requires
eval_onto-eval-requires t c = (omega arith, first_simple c.args.c.now.code.now c.loop-turn.list c.in-Some.cell c.args.c.now.sound c.in-Some.ensures.value c.loop-turn.invariant.0)

pub eval_onto-returns-in_err-v-in-Some : goal.eval_onto-returns-in_err-v-in-Some
eval_onto-returns-in_err-v-in-Some t c = record { value = λ p s. stopped _ c.from_residual.result _ _ _ c.from_residual.ensures.1 (stops_as _ _ _ _ (c.loop-turn.invariant.1 p s ∙ list_does c.args.c.now p s c.loop-turn.list (Some c.in-Some.cell) (values_of c.loop-turn.values.items) _ c.in-Some.ensures.value) (stops_then _ _ _ _ (stops_then _ _ _ _ (c.in_err-v-in-Some.ensures.value p s)))) }

pub eval_onto-loop-turn-preserved : goal.eval_onto-loop-turn-preserved
eval_onto-loop-turn-preserved t c = (rest_simple c.args.c.now.code.now c.loop-turn.list c.in-Some.cell c.args.c.now.sound c.in-Some.ensures.value c.loop-turn.invariant.0, λ p s. c.loop-turn.invariant.1 p s ∙ list_more c.args.c.now p s c.loop-turn.list c.in-Some.cell (values_of c.loop-turn.values.items) _ (value_of c.in_ok-v-in-Some.v) _ _ c.in-Some.ensures.value (c.in_ok-v-in-Some.ensures.value p s) (ap values_of c.in_ok-push-in-Some.ensures.items ∙ map-append value_of c.loop-turn.values.items (c.in_ok-v-in-Some.v ∷ [])))

pub eval_onto-returns-in-None : goal.eval_onto-returns-in-None
eval_onto-returns-in-None t c = record { value = λ p s. c.loop-turn.invariant.1 p s ∙ list_ends c.args.c.now p s c.loop-turn.list (values_of c.loop-turn.values.items) _ c.in-None.ensures.value }

pub evaluate-returns-in-Unary : goal.evaluate-returns-in-Unary
evaluate-returns-in-Unary t c = record { value = λ p s. part_is c.args.c.now c.args.part _ _ p _ _ c.in-Unary.is (c.unary.ensures.value p s) }

pub evaluate-returns-in-Binary : goal.evaluate-returns-in-Binary
evaluate-returns-in-Binary t c = record { value = λ p s. part_is c.args.c.now c.args.part _ _ p _ _ c.in-Binary.is (c.operator.ensures.value p s) }

pub evaluate-returns-in-Index : goal.evaluate-returns-in-Index
evaluate-returns-in-Index t c = record { value = λ p s. part_is c.args.c.now c.args.part _ _ p _ _ c.in-Index.is (c.index.ensures.value p s) }

pub evaluate-returns-in-Length : goal.evaluate-returns-in-Length
evaluate-returns-in-Length t c = record { value = λ p s. part_is c.args.c.now c.args.part _ _ p _ _ c.in-Length.is (c.length_of.ensures.value p s) }

pub evaluate-returns-in-Pop : goal.evaluate-returns-in-Pop
evaluate-returns-in-Pop t c = record { value = λ p s. part_is c.args.c.now c.args.part _ _ p _ _ c.in-Pop.is (c.popped.ensures.value p s) }

pub evaluate-returns-in-CharCodeAt : goal.evaluate-returns-in-CharCodeAt
evaluate-returns-in-CharCodeAt t c = record { value = λ p s. part_is c.args.c.now c.args.part _ _ p _ _ c.in-CharCodeAt.is (c.char_code_at.ensures.value p s) }

pub evaluate-returns-in-Substring : goal.evaluate-returns-in-Substring
evaluate-returns-in-Substring t c = record { value = λ p s. part_is c.args.c.now c.args.part _ _ p _ _ c.in-Substring.is (c.substring.ensures.value p s) }

pub evaluate-returns-in-Decimal : goal.evaluate-returns-in-Decimal
evaluate-returns-in-Decimal t c = record { value = λ p s. part_is c.args.c.now c.args.part _ _ p _ _ c.in-Decimal.is (c.decimal.ensures.value p s) }

pub evaluate-returns-in-FromCharCode : goal.evaluate-returns-in-FromCharCode
evaluate-returns-in-FromCharCode t c = record { value = λ p s. part_is c.args.c.now c.args.part _ _ p _ _ c.in-FromCharCode.is (c.from_char_code.ensures.value p s) }

pub evaluate-returns-in-Array : goal.evaluate-returns-in-Array
evaluate-returns-in-Array t c = record { value = λ p s. part_is c.args.c.now c.args.part _ _ p _ _ c.in-Array.is (c.array.ensures.value p s) }

pub evaluate-returns-in-And : goal.evaluate-returns-in-And
evaluate-returns-in-And t c = record { value = λ p s. part_is c.args.c.now c.args.part _ _ p _ _ c.in-And.is (c.both.ensures.value p s) }

pub evaluate-returns-in-Or : goal.evaluate-returns-in-Or
evaluate-returns-in-Or t c = record { value = λ p s. part_is c.args.c.now c.args.part _ _ p _ _ c.in-Or.is (c.either.ensures.value p s) }

pub evaluate-returns-in-Conditional : goal.evaluate-returns-in-Conditional
evaluate-returns-in-Conditional t c = record { value = λ p s. part_is c.args.c.now c.args.part _ _ p _ _ c.in-Conditional.is (c.choice.ensures.value p s) }

pub evaluate-returns-in-Dictionary : goal.evaluate-returns-in-Dictionary
evaluate-returns-in-Dictionary t c = record { value = λ p s. part_is c.args.c.now c.args.part _ _ p _ _ c.in-Dictionary.is (c.dictionary.ensures.value p.world) }

pub unary-returns-in_err-v : goal.unary-returns-in_err-v
unary-returns-in_err-v t c = record { value = λ p s. stopped _ c.from_residual.result _ _ _ c.from_residual.ensures.1 (stops_then _ _ _ _ (c.in_err-v.ensures.value p s)) }

pub unary-returns : goal.unary-returns
unary-returns t c = record { value = λ p s. value_goes _ _ _ _ _ _ _ (c.in_ok-v.ensures.value p s) (rw (← c.unary_value.ensures.value) (c.given.ensures.value _)) }

pub length_of-returns-in_err-v : goal.length_of-returns-in_err-v
length_of-returns-in_err-v t c = record { value = λ p s. stopped _ c.from_residual.result _ _ _ c.from_residual.ensures.1 (stops_then _ _ _ _ (c.in_err-v.ensures.value p s)) }

pub length_of-returns : goal.length_of-returns
length_of-returns t c = record { value = λ p s. value_goes _ _ _ _ _ _ _ (c.in_ok-v.ensures.value p s) (let e = rw c.as_slice.ensures.value at c.length_value.ensures.value in rw (← e) (c.given.ensures.value _)) }

pub popped-returns-in_err-v : goal.popped-returns-in_err-v
popped-returns-in_err-v t c = record { value = λ p s. stopped _ c.from_residual.result _ _ _ c.from_residual.ensures.1 (stops_then _ _ _ _ (c.in_err-v.ensures.value p s)) }

pub popped-returns : goal.popped-returns
popped-returns t c = record { value = λ p s. value_goes _ _ _ _ _ _ _ (c.in_ok-v.ensures.value p s) (c.pop.ensures.value p.world) }

pub decimal-returns-in_err-v : goal.decimal-returns-in_err-v
decimal-returns-in_err-v t c = record { value = λ p s. stopped _ c.from_residual.result _ _ _ c.from_residual.ensures.1 (stops_then _ _ _ _ (c.in_err-v.ensures.value p s)) }

pub decimal-returns : goal.decimal-returns
decimal-returns t c = record { value = λ p s. value_goes _ _ _ _ _ _ _ (c.in_ok-v.ensures.value p s) (rw (← c.in_ok-text.ensures.value) (c.given.ensures.value _)) }

pub from_char_code-returns-in_err-v : goal.from_char_code-returns-in_err-v
from_char_code-returns-in_err-v t c = record { value = λ p s. stopped _ c.from_residual.result _ _ _ c.from_residual.ensures.1 (stops_then _ _ _ _ (c.in_err-v.ensures.value p s)) }

pub from_char_code-returns : goal.from_char_code-returns
from_char_code-returns t c = record { value = λ p s. value_goes _ _ _ _ _ _ _ (c.in_ok-v.ensures.value p s) (rw (← c.in_ok-text.ensures.value) (c.given.ensures.value _)) }

pub operator_by_values-returns-in_err-u : goal.operator_by_values-returns-in_err-u
operator_by_values-returns-in_err-u t c = record { value = λ p s. stopped _ c.from_residual.result _ _ _ c.from_residual.ensures.1 (stops_then _ _ _ _ (c.in_err-u.ensures.value p s)) }

pub operator_by_values-returns-in_err-v : goal.operator_by_values-returns-in_err-v
operator_by_values-returns-in_err-v t c = record { value = λ p s. value_goes _ _ _ _ _ _ _ (c.in_ok-u.ensures.value p s) (stopped _ c.from_residual-in_err-v.result _ _ _ c.from_residual-in_err-v.ensures.1 (stops_then _ _ _ _ (c.in_err-v.ensures.value p s))) }

pub operator_by_values-returns : goal.operator_by_values-returns
operator_by_values-returns t c = record { value = λ p s. value_goes _ _ _ _ _ _ _ (c.in_ok-u.ensures.value p s) (value_goes _ _ _ _ _ _ _ (c.in_ok-v.ensures.value p s) (let b = rw c.as_slice.ensures.value at c.binary.ensures.value in b _)) }

pub index-returns-in_err-u : goal.index-returns-in_err-u
index-returns-in_err-u t c = record { value = λ p s. stopped _ c.from_residual.result _ _ _ c.from_residual.ensures.1 (stops_then _ _ _ _ (c.in_err-u.ensures.value p s)) }

pub index-returns-in_err-v : goal.index-returns-in_err-v
index-returns-in_err-v t c = record { value = λ p s. value_goes _ _ _ _ _ _ _ (c.in_ok-u.ensures.value p s) (stopped _ c.from_residual-in_err-v.result _ _ _ c.from_residual-in_err-v.ensures.1 (stops_then _ _ _ _ (c.in_err-v.ensures.value p s))) }

pub index-returns : goal.index-returns
index-returns t c = record { value = λ p s. value_goes _ _ _ _ _ _ _ (c.in_ok-u.ensures.value p s) (value_goes _ _ _ _ _ _ _ (c.in_ok-v.ensures.value p s) (let e = rw c.as_slice.ensures.value at c.element.ensures.value in rw (← e) (c.given.ensures.value _))) }

pub char_code_at-returns-in_err-u : goal.char_code_at-returns-in_err-u
char_code_at-returns-in_err-u t c = record { value = λ p s. stopped _ c.from_residual.result _ _ _ c.from_residual.ensures.1 (stops_then _ _ _ _ (c.in_err-u.ensures.value p s)) }

pub char_code_at-returns-in_err-v : goal.char_code_at-returns-in_err-v
char_code_at-returns-in_err-v t c = record { value = λ p s. value_goes _ _ _ _ _ _ _ (c.in_ok-u.ensures.value p s) (stopped _ c.from_residual-in_err-v.result _ _ _ c.from_residual-in_err-v.ensures.1 (stops_then _ _ _ _ (c.in_err-v.ensures.value p s))) }

pub char_code_at-returns : goal.char_code_at-returns
char_code_at-returns t c = record { value = λ p s. value_goes _ _ _ _ _ _ _ (c.in_ok-u.ensures.value p s) (value_goes _ _ _ _ _ _ _ (c.in_ok-v.ensures.value p s) (rw (← c.char_code.ensures.value) (c.given.ensures.value _))) }

pub substring-returns-in_err-u : goal.substring-returns-in_err-u
substring-returns-in_err-u t c = record { value = λ p s. stopped _ c.from_residual.result _ _ _ c.from_residual.ensures.1 (stops_then _ _ _ _ (c.in_err-u.ensures.value p s)) }

pub substring-returns-in_err-v : goal.substring-returns-in_err-v
substring-returns-in_err-v t c = record { value = λ p s. value_goes _ _ _ _ _ _ _ (c.in_ok-u.ensures.value p s) (stopped _ c.from_residual-in_err-v.result _ _ _ c.from_residual-in_err-v.ensures.1 (stops_then _ _ _ _ (c.in_err-v.ensures.value p s))) }

pub substring-returns-in_err-x : goal.substring-returns-in_err-x
substring-returns-in_err-x t c = record { value = λ p s. value_goes _ _ _ _ _ _ _ (c.in_ok-u.ensures.value p s) (value_goes _ _ _ _ _ _ _ (c.in_ok-v.ensures.value p s) (stopped _ c.from_residual-in_err-x.result _ _ _ c.from_residual-in_err-x.ensures.1 (stops_then _ _ _ _ (c.in_err-x.ensures.value p s)))) }

pub substring-returns : goal.substring-returns
substring-returns t c = record { value = λ p s. value_goes _ _ _ _ _ _ _ (c.in_ok-u.ensures.value p s) (value_goes _ _ _ _ _ _ _ (c.in_ok-v.ensures.value p s) (value_goes _ _ _ _ _ _ _ (c.in_ok-x.ensures.value p s) (rw (← c.in_ok-text.ensures.value) (c.given.ensures.value _)))) }

pub both-returns-in_err-condition : goal.both-returns-in_err-condition
both-returns-in_err-condition t c = record { value = λ p s. stopped _ c.from_residual.result _ _ _ c.from_residual.ensures.1 (condition_stops _ _ _ _ _ (c.in_err-condition.ensures.value p s)) }

pub either-returns-in_err-condition : goal.either-returns-in_err-condition
either-returns-in_err-condition t c = record { value = λ p s. stopped _ c.from_residual.result _ _ _ c.from_residual.ensures.1 (condition_stops _ _ _ _ _ (c.in_err-condition.ensures.value p s)) }

pub choice-returns-in_err-condition : goal.choice-returns-in_err-condition
choice-returns-in_err-condition t c = record { value = λ p s. stopped _ c.from_residual.result _ _ _ c.from_residual.ensures.1 (condition_stops _ _ _ _ _ (c.in_err-condition.ensures.value p s)) }

pub both-returns-then-branch : goal.both-returns-then-branch
both-returns-then-branch t c = record { value = λ p s. condition_true _ _ _ _ _ _ _ _ _ (c.in_ok-condition.ensures.value p s) c.if-branch.true (c.eval.ensures.value p s) }

pub both-returns : goal.both-returns
both-returns t c = record { value = λ p s. condition_is_false _ _ _ _ _ _ (c.in_ok-condition.ensures.value p s) c.if-branch.false }

pub either-returns-then-branch : goal.either-returns-then-branch
either-returns-then-branch t c = record { value = λ p s. condition_is_true _ _ _ _ _ _ (c.in_ok-condition.ensures.value p s) c.if-branch.true }

pub either-returns : goal.either-returns
either-returns t c = record { value = λ p s. condition_false _ _ _ _ _ _ _ _ _ (c.in_ok-condition.ensures.value p s) c.if-branch.false (c.eval.ensures.value p s) }

pub choice-returns-then-branch : goal.choice-returns-then-branch
choice-returns-then-branch t c = record { value = λ p s. condition_true _ _ _ _ _ _ _ _ _ (c.in_ok-condition.ensures.value p s) c.if-branch.true (c.eval.ensures.value p s) }

pub choice-returns : goal.choice-returns
choice-returns t c = record { value = λ p s. condition_false _ _ _ _ _ _ _ _ _ (c.in_ok-condition.ensures.value p s) c.if-branch.false (c.eval-2.ensures.value p s) }

pub array-returns-in_err-eval_onto : goal.array-returns-in_err-eval_onto
array-returns-in_err-eval_onto t c = record { value = λ p s. stopped _ c.from_residual-in_err-eval_onto.result _ _ _ c.from_residual-in_err-eval_onto.ensures.1 (stops_onto _ _ _ _ _ (c.in_err-eval_onto.ensures.value p s)) }

pub array-returns : goal.array-returns
array-returns t c = record { value = λ p s. value_goes _ _ _ _ _ _ _ (after_none _ _ _ _ (ap values_of c.in_ok-values.ensures.items) (c.in_ok-eval_onto.ensures.value p s)) (c.allocate.ensures.value p.world) }

pub condition-returns-in-Some : goal.condition-returns-in-Some
condition-returns-in-Some t c = record { value = λ p s. let e = rw c.as_slice.ensures.value at c.in-Some.ensures.value in ap (λ o. and_then o (truth_of c.args.at)) (e p s) }

pub operator-returns-in-Some : goal.operator-returns-in-Some
operator-returns-in-Some t c = record { value = λ p s. let e = rw c.as_slice.ensures.value at c.in-Some.ensures.value in e c.args.at p s }
