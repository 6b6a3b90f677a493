use Rattle.std.proofs.Common.{refl, ap, ◌∙◌}
use Rattle.js_tree.specs.Evaluate.{setting}
use Rattle.js_code.specs.Parts.{as_expr, expr_at, trees_of}
use Rattle.js_code.specs.declared.code.part.Part.TheVariants as held
use Rattle.js_steps.specs.Moment.{expr_does}
use Rattle.js_steps.specs.Stands.{OnlyObjects, moment}
use Rattle.js_steps.specs.WayLaws.{some_part, begins}
use Rattle.js_steps.specs.PopLaws.{steps_in}
use Rattle.js_steps.proofs.Begins.{unary_is, binary_is, both_is, either_is, choice_is, index_is, length_is, pop_is, char_code_is, substring_is, decimal_is, byte_is}
use Rattle.js_steps.proofs.Elements.{array_goes}
use Rattle.js_steps.proofs.Calling.{calls_part}
use Rattle.js_steps.proofs.Found.{found_in, found_none}
use Rattle.js_steps.proofs.Leaves.{leaf_simple}
use Rattle.js_steps.proofs.steps.evaluate.begin.Goals as goal

pub returns-in-Unary : goal.returns-in-Unary
returns-in-Unary c = record {
  keeps =
      let s = c.args.state.now in
      let stack = c.args.stack.now.items in
      let ts = trees_of s.body.now.code in
      steps_in c.args.env.now stack c.first.new.stack.items s c.first.new.state c.first.result (λ st m. expr_does st (expr_at m.trees c.args.i) m)
      (begins stack c.first.new.stack.items s c.first.new.state c.first.result c.args.i c.in-Unary.e c.args.part (held.Unary c.in-Unary.at c.in-Unary.op c.in-Unary.e) (λ st t m. expr_does st (as_expr t) m) c.requires.held c.in-Unary.is
      (λ script choices fuel b vs _. unary_is (setting script choices fuel) (moment b vs s) c.in-Unary.at c.in-Unary.op (expr_at ts c.in-Unary.e)) c.first.ensures.keeps);
}

pub returns-in-Binary : goal.returns-in-Binary
returns-in-Binary c = record {
  keeps =
      let s = c.args.state.now in
      let stack = c.args.stack.now.items in
      let ts = trees_of s.body.now.code in
      steps_in c.args.env.now stack c.first-in-Binary.new.stack.items s c.first-in-Binary.new.state c.first-in-Binary.result (λ st m. expr_does st (expr_at m.trees c.args.i) m)
      (begins stack c.first-in-Binary.new.stack.items s c.first-in-Binary.new.state c.first-in-Binary.result c.args.i c.in-Binary.left c.args.part (held.Binary c.in-Binary.at c.in-Binary.op c.in-Binary.left c.in-Binary.right) (λ st t m. expr_does st (as_expr t) m) c.requires.held c.in-Binary.is
      (λ script choices fuel b vs _. binary_is (setting script choices fuel) (moment b vs s) c.in-Binary.at c.in-Binary.op (expr_at ts c.in-Binary.left) (expr_at ts c.in-Binary.right)) c.first-in-Binary.ensures.keeps);
}

pub returns-in-And : goal.returns-in-And
returns-in-And c = record {
  keeps =
      let s = c.args.state.now in
      let stack = c.args.stack.now.items in
      let ts = trees_of s.body.now.code in
      steps_in c.args.env.now stack c.first-in-And.new.stack.items s c.first-in-And.new.state c.first-in-And.result (λ st m. expr_does st (expr_at m.trees c.args.i) m)
      (begins stack c.first-in-And.new.stack.items s c.first-in-And.new.state c.first-in-And.result c.args.i c.in-And.left c.args.part (held.And c.in-And.at c.in-And.left c.in-And.right) (λ st t m. expr_does st (as_expr t) m) c.requires.held c.in-And.is
      (λ script choices fuel b vs _. both_is (setting script choices fuel) (moment b vs s) c.in-And.at (expr_at ts c.in-And.left) (expr_at ts c.in-And.right)) c.first-in-And.ensures.keeps);
}

pub returns-in-Or : goal.returns-in-Or
returns-in-Or c = record {
  keeps =
      let s = c.args.state.now in
      let stack = c.args.stack.now.items in
      let ts = trees_of s.body.now.code in
      steps_in c.args.env.now stack c.first-in-Or.new.stack.items s c.first-in-Or.new.state c.first-in-Or.result (λ st m. expr_does st (expr_at m.trees c.args.i) m)
      (begins stack c.first-in-Or.new.stack.items s c.first-in-Or.new.state c.first-in-Or.result c.args.i c.in-Or.left c.args.part (held.Or c.in-Or.at c.in-Or.left c.in-Or.right) (λ st t m. expr_does st (as_expr t) m) c.requires.held c.in-Or.is
      (λ script choices fuel b vs _. either_is (setting script choices fuel) (moment b vs s) c.in-Or.at (expr_at ts c.in-Or.left) (expr_at ts c.in-Or.right)) c.first-in-Or.ensures.keeps);
}

pub returns-in-Conditional : goal.returns-in-Conditional
returns-in-Conditional c = record {
  keeps =
      let s = c.args.state.now in
      let stack = c.args.stack.now.items in
      let ts = trees_of s.body.now.code in
      steps_in c.args.env.now stack c.first-in-Conditional.new.stack.items s c.first-in-Conditional.new.state c.first-in-Conditional.result (λ st m. expr_does st (expr_at m.trees c.args.i) m)
      (begins stack c.first-in-Conditional.new.stack.items s c.first-in-Conditional.new.state c.first-in-Conditional.result c.args.i c.in-Conditional.test c.args.part (held.Conditional c.in-Conditional.at c.in-Conditional.test c.in-Conditional.left c.in-Conditional.right) (λ st t m. expr_does st (as_expr t) m) c.requires.held c.in-Conditional.is
      (λ script choices fuel b vs _. choice_is (setting script choices fuel) (moment b vs s) c.in-Conditional.at (expr_at ts c.in-Conditional.test) (expr_at ts c.in-Conditional.left) (expr_at ts c.in-Conditional.right)) c.first-in-Conditional.ensures.keeps);
}

pub call-requires : goal.call-requires
call-requires c = record { held = c.requires.held ∙ ap some_part c.in-Call.is }

pub returns-in-Call : goal.returns-in-Call
returns-in-Call c = record {
  keeps = calls_part c.args.env.now c.args.stack.now.items c.call.new.stack.items c.args.state.now c.call.new.state c.call.result c.args.i c.in-Call.at c.in-Call.callee c.in-Call.arguments (c.requires.held ∙ ap some_part c.in-Call.is) c.call.ensures.keeps;
}

pub returns-in-Index : goal.returns-in-Index
returns-in-Index c = record {
  keeps =
      let s = c.args.state.now in
      let stack = c.args.stack.now.items in
      let ts = trees_of s.body.now.code in
      steps_in c.args.env.now stack c.first-in-Index.new.stack.items s c.first-in-Index.new.state c.first-in-Index.result (λ st m. expr_does st (expr_at m.trees c.args.i) m)
      (begins stack c.first-in-Index.new.stack.items s c.first-in-Index.new.state c.first-in-Index.result c.args.i c.in-Index.e c.args.part (held.Index c.in-Index.at c.in-Index.e c.in-Index.i) (λ st t m. expr_does st (as_expr t) m) c.requires.held c.in-Index.is
      (λ script choices fuel b vs _. index_is (setting script choices fuel) (moment b vs s) c.in-Index.at (expr_at ts c.in-Index.e) (expr_at ts c.in-Index.i)) c.first-in-Index.ensures.keeps);
}

pub returns-in-Length : goal.returns-in-Length
returns-in-Length c = record {
  keeps =
      let s = c.args.state.now in
      let stack = c.args.stack.now.items in
      let ts = trees_of s.body.now.code in
      steps_in c.args.env.now stack c.first-in-Length.new.stack.items s c.first-in-Length.new.state c.first-in-Length.result (λ st m. expr_does st (expr_at m.trees c.args.i) m)
      (begins stack c.first-in-Length.new.stack.items s c.first-in-Length.new.state c.first-in-Length.result c.args.i c.in-Length.e c.args.part (held.Length c.in-Length.at c.in-Length.e) (λ st t m. expr_does st (as_expr t) m) c.requires.held c.in-Length.is
      (λ script choices fuel b vs _. length_is (setting script choices fuel) (moment b vs s) c.in-Length.at (expr_at ts c.in-Length.e)) c.first-in-Length.ensures.keeps);
}

pub returns-in-Pop : goal.returns-in-Pop
returns-in-Pop c = record {
  keeps =
      let s = c.args.state.now in
      let stack = c.args.stack.now.items in
      let ts = trees_of s.body.now.code in
      steps_in c.args.env.now stack c.first-in-Pop.new.stack.items s c.first-in-Pop.new.state c.first-in-Pop.result (λ st m. expr_does st (expr_at m.trees c.args.i) m)
      (begins stack c.first-in-Pop.new.stack.items s c.first-in-Pop.new.state c.first-in-Pop.result c.args.i c.in-Pop.e c.args.part (held.Pop c.in-Pop.at c.in-Pop.e) (λ st t m. expr_does st (as_expr t) m) c.requires.held c.in-Pop.is
      (λ script choices fuel b vs _. pop_is (setting script choices fuel) (moment b vs s) c.in-Pop.at (expr_at ts c.in-Pop.e)) c.first-in-Pop.ensures.keeps);
}

pub returns-in-CharCodeAt : goal.returns-in-CharCodeAt
returns-in-CharCodeAt c = record {
  keeps =
      let s = c.args.state.now in
      let stack = c.args.stack.now.items in
      let ts = trees_of s.body.now.code in
      steps_in c.args.env.now stack c.first-in-CharCodeAt.new.stack.items s c.first-in-CharCodeAt.new.state c.first-in-CharCodeAt.result (λ st m. expr_does st (expr_at m.trees c.args.i) m)
      (begins stack c.first-in-CharCodeAt.new.stack.items s c.first-in-CharCodeAt.new.state c.first-in-CharCodeAt.result c.args.i c.in-CharCodeAt.e c.args.part (held.CharCodeAt c.in-CharCodeAt.at c.in-CharCodeAt.e c.in-CharCodeAt.i) (λ st t m. expr_does st (as_expr t) m) c.requires.held c.in-CharCodeAt.is
      (λ script choices fuel b vs _. char_code_is (setting script choices fuel) (moment b vs s) c.in-CharCodeAt.at (expr_at ts c.in-CharCodeAt.e) (expr_at ts c.in-CharCodeAt.i)) c.first-in-CharCodeAt.ensures.keeps);
}

pub returns-in-Substring : goal.returns-in-Substring
returns-in-Substring c = record {
  keeps =
      let s = c.args.state.now in
      let stack = c.args.stack.now.items in
      let ts = trees_of s.body.now.code in
      steps_in c.args.env.now stack c.first-in-Substring.new.stack.items s c.first-in-Substring.new.state c.first-in-Substring.result (λ st m. expr_does st (expr_at m.trees c.args.i) m)
      (begins stack c.first-in-Substring.new.stack.items s c.first-in-Substring.new.state c.first-in-Substring.result c.args.i c.in-Substring.e c.args.part (held.Substring c.in-Substring.at c.in-Substring.e c.in-Substring.from c.in-Substring.to) (λ st t m. expr_does st (as_expr t) m) c.requires.held c.in-Substring.is
      (λ script choices fuel b vs _. substring_is (setting script choices fuel) (moment b vs s) c.in-Substring.at (expr_at ts c.in-Substring.e) (expr_at ts c.in-Substring.from) (expr_at ts c.in-Substring.to)) c.first-in-Substring.ensures.keeps);
}

pub returns-in_ok-values-in-Array : goal.returns-in_ok-values-in-Array
returns-in_ok-values-in-Array c = record {
  keeps =
      let s = c.args.state.now in
      let only : OnlyObjects s s = record { left = refl; globals = refl; body = refl; locals = refl; caught = refl } in
      let stack = c.args.stack.now.items in
      let new = c.elements.new.stack.items in
      let s2 = c.elements.new.state in
      steps_in c.args.env.now stack new s s2 c.elements.result (λ st m. expr_does st (expr_at m.trees c.args.i) m)
      (array_goes stack new s s s2 c.elements.result c.args.i c.in-Array.at c.in-Array.items c.in_ok-values-in-Array.values.items (c.requires.held ∙ ap some_part c.in-Array.is) only (λ b vs. refl) c.in_ok-values-in-Array.ensures.items c.elements.ensures.keeps);
}

pub returns-in-Decimal : goal.returns-in-Decimal
returns-in-Decimal c = record {
  keeps =
      let s = c.args.state.now in
      let stack = c.args.stack.now.items in
      let ts = trees_of s.body.now.code in
      steps_in c.args.env.now stack c.first-in-Decimal.new.stack.items s c.first-in-Decimal.new.state c.first-in-Decimal.result (λ st m. expr_does st (expr_at m.trees c.args.i) m)
      (begins stack c.first-in-Decimal.new.stack.items s c.first-in-Decimal.new.state c.first-in-Decimal.result c.args.i c.in-Decimal.e c.args.part (held.Decimal c.in-Decimal.at c.in-Decimal.e) (λ st t m. expr_does st (as_expr t) m) c.requires.held c.in-Decimal.is
      (λ script choices fuel b vs _. decimal_is (setting script choices fuel) (moment b vs s) c.in-Decimal.at (expr_at ts c.in-Decimal.e)) c.first-in-Decimal.ensures.keeps);
}

pub returns-in-FromCharCode : goal.returns-in-FromCharCode
returns-in-FromCharCode c = record {
  keeps =
      let s = c.args.state.now in
      let stack = c.args.stack.now.items in
      let ts = trees_of s.body.now.code in
      steps_in c.args.env.now stack c.first-in-FromCharCode.new.stack.items s c.first-in-FromCharCode.new.state c.first-in-FromCharCode.result (λ st m. expr_does st (expr_at m.trees c.args.i) m)
      (begins stack c.first-in-FromCharCode.new.stack.items s c.first-in-FromCharCode.new.state c.first-in-FromCharCode.result c.args.i c.in-FromCharCode.e c.args.part (held.FromCharCode c.in-FromCharCode.at c.in-FromCharCode.e) (λ st t m. expr_does st (as_expr t) m) c.requires.held c.in-FromCharCode.is
      (λ script choices fuel b vs _. byte_is (setting script choices fuel) (moment b vs s) c.in-FromCharCode.at (expr_at ts c.in-FromCharCode.e)) c.first-in-FromCharCode.ensures.keeps);
}

pub simple-requires : goal.simple-requires
simple-requires c = record { simple = leaf_simple c.args.state.now.body.now c.args.i c.args.part c.requires.held c.in_default.not-Unary c.in_default.not-Binary c.in_default.not-And c.in_default.not-Or c.in_default.not-Conditional c.in_default.not-Call c.in_default.not-Index c.in_default.not-Length c.in_default.not-Pop c.in_default.not-CharCodeAt c.in_default.not-Substring c.in_default.not-Array c.in_default.not-Decimal c.in_default.not-FromCharCode }

pub returns-in_ok-v-in_default : goal.returns-in_ok-v-in_default
returns-in_ok-v-in_default c = record { keeps = found_in c.args.env.now c.args.stack.now.items c.args.state.now c.simple.new.state c.args.i c.in_ok-v-in_default.v c.in_ok-v-in_default.ensures.same c.in_ok-v-in_default.ensures.value }

pub returns-in_err-v-in_default : goal.returns-in_err-v-in_default
returns-in_err-v-in_default c = record { keeps = found_none c.args.env.now c.args.stack.now.items c.args.state.now c.simple.new.state c.from_residual-in_err-v-in_default.result _ c.args.i c.from_residual-in_err-v-in_default.ensures.1 c.in_err-v-in_default.ensures.value }
