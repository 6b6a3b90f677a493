use Rattle.std.proofs.Common.{refl, ap, ◌∙◌, List, true, false}
use Rattle.js_tree.specs.Value.{Object, truth, gives}
use Rattle.js_tree.specs.Operation.{unary_value, length_value, decimal_text, one_byte}
use Rattle.js_code.specs.Parts.{expr_at}
use Rattle.js_code.specs.declared.code.part.Part.TheVariants as held
use Rattle.js_value.specs.HeapSeen.{value_of, objects_of}
use Rattle.js_value.specs.declared.heap.heap.Object as heap
use Rattle.js_value.specs.declared.heap.value.Value.TheVariants.{Truth}
use Rattle.js_steps.specs.declared.frames.frame.Task.TheVariants.{Evaluate, Give}
use Rattle.js_steps.specs.declared.frames.state.State.{State}
use Rattle.js_steps.specs.Moment.{value, expr_does}
use Rattle.js_steps.specs.PartWaits.{second_does}
use Rattle.js_steps.specs.Stack.{task_does}
use Rattle.js_steps.specs.Stands.{OnlyObjects}
use Rattle.js_steps.specs.PartLaws.{pop_step}
use Rattle.js_steps.proofs.Rests.{no_operation}
use Rattle.js_steps.specs.WayLaws.{part_first, part_then, second_here, given_as, chosen_ways}
use Rattle.js_steps.proofs.operands.operands.with_first.Goals as goal

pub returns-in-Unary : goal.returns-in-Unary
returns-in-Unary c = record {
  keeps =
      let s = c.args.state.now in
      let stack = c.args.stack.now.items in
      let v = value_of c.args.v in
      part_first stack stack s s c.given.result c.args.i c.args.part (held.Unary c.in-Unary.at c.in-Unary.op c.in-Unary.e) v c.requires.held c.in-Unary.is
      (given_as stack stack s s c.given.result c.in-Unary.at c.unary_value.result (λ _. unary_value c.in-Unary.op v) c.unary_value.ensures.value (c.given.ensures.keeps stack s));
}

pub returns-in-Binary : goal.returns-in-Binary
returns-in-Binary c = record {
  keeps =
      let s = c.args.state.now in
      let stack = c.args.stack.now.items in
      let v = value_of c.args.v in
      part_first stack c.second.new.stack.items s c.second.new.state c.second.result c.args.i c.args.part (held.Binary c.in-Binary.at c.in-Binary.op c.in-Binary.left c.in-Binary.right) v c.requires.held c.in-Binary.is
      (part_then stack c.second.new.stack.items s c.second.new.state c.second.result c.args.i c.in-Binary.right c.args.part (held.Binary c.in-Binary.at c.in-Binary.op c.in-Binary.left c.in-Binary.right) (λ st t x n. second_does st t v x n) c.requires.held c.in-Binary.is c.second.ensures.keeps);
}

pub returns-in-And : goal.returns-in-And
returns-in-And c = record {
  keeps =
      let s = c.args.state.now in
      let stack = c.args.stack.now.items in
      let v = value_of c.args.v in
      part_first stack stack s s c.chosen.result c.args.i c.args.part (held.And c.in-And.at c.in-And.left c.in-And.right) v c.requires.held c.in-And.is
      (chosen_ways stack stack s s c.chosen.result c.in-And.at v (λ st. task_does st (Evaluate c.in-And.right)) (λ st. task_does st (Give (Truth false))) (λ st m. expr_does st (expr_at m.trees c.in-And.right)) (λ st m. gives (value (truth false))) (λ st m. refl) (λ st m. refl) (c.chosen.ensures.keeps stack s));
}

pub returns-in-Or : goal.returns-in-Or
returns-in-Or c = record {
  keeps =
      let s = c.args.state.now in
      let stack = c.args.stack.now.items in
      let v = value_of c.args.v in
      part_first stack stack s s c.chosen-in-Or.result c.args.i c.args.part (held.Or c.in-Or.at c.in-Or.left c.in-Or.right) v c.requires.held c.in-Or.is
      (chosen_ways stack stack s s c.chosen-in-Or.result c.in-Or.at v (λ st. task_does st (Give (Truth true))) (λ st. task_does st (Evaluate c.in-Or.right)) (λ st m. gives (value (truth true))) (λ st m. expr_does st (expr_at m.trees c.in-Or.right)) (λ st m. refl) (λ st m. refl) (c.chosen-in-Or.ensures.keeps stack s));
}

pub returns-in-Conditional : goal.returns-in-Conditional
returns-in-Conditional c = record {
  keeps =
      let s = c.args.state.now in
      let stack = c.args.stack.now.items in
      let v = value_of c.args.v in
      part_first stack stack s s c.chosen-in-Conditional.result c.args.i c.args.part (held.Conditional c.in-Conditional.at c.in-Conditional.test c.in-Conditional.left c.in-Conditional.right) v c.requires.held c.in-Conditional.is
      (chosen_ways stack stack s s c.chosen-in-Conditional.result c.in-Conditional.at v (λ st. task_does st (Evaluate c.in-Conditional.left)) (λ st. task_does st (Evaluate c.in-Conditional.right)) (λ st m. expr_does st (expr_at m.trees c.in-Conditional.left)) (λ st m. expr_does st (expr_at m.trees c.in-Conditional.right)) (λ st m. refl) (λ st m. refl) (c.chosen-in-Conditional.ensures.keeps stack s));
}

pub returns-in-Index : goal.returns-in-Index
returns-in-Index c = record {
  keeps =
      let s = c.args.state.now in
      let stack = c.args.stack.now.items in
      let v = value_of c.args.v in
      part_first stack c.second-in-Index.new.stack.items s c.second-in-Index.new.state c.second-in-Index.result c.args.i c.args.part (held.Index c.in-Index.at c.in-Index.e c.in-Index.key) v c.requires.held c.in-Index.is
      (part_then stack c.second-in-Index.new.stack.items s c.second-in-Index.new.state c.second-in-Index.result c.args.i c.in-Index.key c.args.part (held.Index c.in-Index.at c.in-Index.e c.in-Index.key) (λ st t x n. second_does st t v x n) c.requires.held c.in-Index.is c.second-in-Index.ensures.keeps);
}

pub returns-in-Length : goal.returns-in-Length
returns-in-Length c = record {
  keeps =
      let s = c.args.state.now in
      let stack = c.args.stack.now.items in
      let v = value_of c.args.v in
      part_first stack stack s s c.given-in-Length.result c.args.i c.args.part (held.Length c.in-Length.at c.in-Length.e) v c.requires.held c.in-Length.is
      (given_as stack stack s s c.given-in-Length.result c.in-Length.at c.length_value.result (λ (os : List Object). length_value os v) (c.length_value.ensures.value ∙ ap (λ (os : List heap.Object). length_value (objects_of os) v) c.as_slice.ensures.value) (c.given-in-Length.ensures.keeps stack s));
}

pub returns-in-Pop : goal.returns-in-Pop
returns-in-Pop c = record {
  keeps =
      let s = c.args.state.now in
      let stack = c.args.stack.now.items in
      let v = value_of c.args.v in
      let s1 : State = record s { objects = c.pop.new.objects } in
      let only : OnlyObjects s s1 = record { left = refl; globals = refl; body = refl; locals = refl; caught = refl } in
      part_first stack stack s s1 c.given-in-Pop.result c.args.i c.args.part (held.Pop c.in-Pop.at c.in-Pop.e) v c.requires.held c.in-Pop.is
      (pop_step stack stack s s1 s1 c.in-Pop.at v c.pop.result c.given-in-Pop.result only c.pop.ensures.value c.pop.ensures.same (c.given-in-Pop.ensures.keeps stack s1));
}

pub returns-in-CharCodeAt : goal.returns-in-CharCodeAt
returns-in-CharCodeAt c = record {
  keeps =
      let s = c.args.state.now in
      let stack = c.args.stack.now.items in
      let v = value_of c.args.v in
      part_first stack c.second-in-CharCodeAt.new.stack.items s c.second-in-CharCodeAt.new.state c.second-in-CharCodeAt.result c.args.i c.args.part (held.CharCodeAt c.in-CharCodeAt.at c.in-CharCodeAt.e c.in-CharCodeAt.key) v c.requires.held c.in-CharCodeAt.is
      (part_then stack c.second-in-CharCodeAt.new.stack.items s c.second-in-CharCodeAt.new.state c.second-in-CharCodeAt.result c.args.i c.in-CharCodeAt.key c.args.part (held.CharCodeAt c.in-CharCodeAt.at c.in-CharCodeAt.e c.in-CharCodeAt.key) (λ st t x n. second_does st t v x n) c.requires.held c.in-CharCodeAt.is c.second-in-CharCodeAt.ensures.keeps);
}

pub returns-in-Substring : goal.returns-in-Substring
returns-in-Substring c = record {
  keeps =
      let s = c.args.state.now in
      let stack = c.args.stack.now.items in
      let v = value_of c.args.v in
      part_first stack c.second-in-Substring.new.stack.items s c.second-in-Substring.new.state c.second-in-Substring.result c.args.i c.args.part (held.Substring c.in-Substring.at c.in-Substring.e c.in-Substring.from c.in-Substring.to) v c.requires.held c.in-Substring.is
      (second_here stack c.second-in-Substring.new.stack.items s c.second-in-Substring.new.state c.second-in-Substring.result c.in-Substring.from (held.Substring c.in-Substring.at c.in-Substring.e c.in-Substring.from c.in-Substring.to) v
      (part_then stack c.second-in-Substring.new.stack.items s c.second-in-Substring.new.state c.second-in-Substring.result c.args.i c.in-Substring.from c.args.part (held.Substring c.in-Substring.at c.in-Substring.e c.in-Substring.from c.in-Substring.to) (λ st t x n. second_does st t v x n) c.requires.held c.in-Substring.is c.second-in-Substring.ensures.keeps));
}

pub returns-in_ok-text-in-Decimal : goal.returns-in_ok-text-in-Decimal
returns-in_ok-text-in-Decimal c = record {
  keeps =
      let s = c.args.state.now in
      let stack = c.args.stack.now.items in
      let v = value_of c.args.v in
      part_first stack stack s s c.given-in-Decimal.result c.args.i c.args.part (held.Decimal c.in-Decimal.at c.in-Decimal.e) v c.requires.held c.in-Decimal.is
      (given_as stack stack s s c.given-in-Decimal.result c.in-Decimal.at c.in_ok-text-in-Decimal.text (λ _. decimal_text v) c.in_ok-text-in-Decimal.ensures.value (c.given-in-Decimal.ensures.keeps stack s));
}

pub returns-in_ok-text-in-FromCharCode : goal.returns-in_ok-text-in-FromCharCode
returns-in_ok-text-in-FromCharCode c = record {
  keeps =
      let s = c.args.state.now in
      let stack = c.args.stack.now.items in
      let v = value_of c.args.v in
      part_first stack stack s s c.given-in-FromCharCode.result c.args.i c.args.part (held.FromCharCode c.in-FromCharCode.at c.in-FromCharCode.e) v c.requires.held c.in-FromCharCode.is
      (given_as stack stack s s c.given-in-FromCharCode.result c.in-FromCharCode.at c.in_ok-text-in-FromCharCode.text (λ _. one_byte v) c.in_ok-text-in-FromCharCode.ensures.value (c.given-in-FromCharCode.ensures.keeps stack s));
}

pub returns-in_default : goal.returns-in_default
returns-in_default c = record {
  keeps = c.statement_with_first.ensures.keeps (no_operation c.args.part c.in_default.not-Unary c.in_default.not-Binary c.in_default.not-And c.in_default.not-Or c.in_default.not-Conditional c.in_default.not-Index c.in_default.not-Length c.in_default.not-Pop c.in_default.not-CharCodeAt c.in_default.not-Substring c.in_default.not-Decimal c.in_default.not-FromCharCode);
}
