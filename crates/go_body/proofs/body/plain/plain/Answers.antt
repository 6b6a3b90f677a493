use Rattle.std.proofs.Common.{arith, ◌∙◌, ap, refl, map, drop, List}
use Rattle.go_operands.specs.AnswerView.{flaw_view}
use Rattle.go_operands.specs.declared.answers.answer.Flaw.{Flaw}
use Rattle.go_typing.specs.Statements.{has_unbuilt, spared}
use Rattle.go_walk.specs.WalkView.{walk_of}
use Rattle.go_body.specs.Spared.{with_spared}
use Rattle.go_walk.specs.Left.{targets_of}
use Rattle.go_calls.specs.Words.{types_of}
use Rattle.go_define.specs.AroundView.{around_of}
use Rattle.go_typing.specs.Assign.{define}
use Rattle.go_typing.specs.Declare.{decl}
use Rattle.go_syntax.specs.View.{expr_view, exprs_of, decl_view}
use Rattle.go_body.proofs.SpareLemmas.{spared_does}
use Rattle.go_body.proofs.StandLemmas.{standing_does}
use Rattle.go_body.proofs.BodyPlainLemmas as lemma
use Rattle.go_body.proofs.body.plain.plain.Goals as goal

pub returns-in-Empty : goal.returns-in-Empty
returns-in-Empty c = record {
  does = λ label. lemma.empty_arm c.args.s.now c.deref.result.now (around_of (types_of c.args.walk.now.env) c.args.around.now (targets_of c.args.targets.now) label) c.args.walk.now c.args.flaws.now.items c.args.out.now.items c.deref.ensures c.in-Empty.is;
}

pub returns-in_ok-expression-in-Expr : goal.returns-in_ok-expression-in-Expr
returns-in_ok-expression-in-Expr c = record {
  does = λ label. lemma.expr_arm c.args.s.now c.deref.result.now (around_of (types_of c.args.walk.now.env) c.args.around.now (targets_of c.args.targets.now) label) c.args.walk.now c.expression.new.walk c.args.flaws.now.items c.expression.new.flaws.items c.args.out.now.items c.expression.new.out.items c.deref.ensures c.in-Expr.xs c.as_slice.result.now c.in-Expr.is c.as_slice.ensures.value c.in_ok-expression-in-Expr.ensures.does;
}

pub returns-in_ok-step-in-IncDec : goal.returns-in_ok-step-in-IncDec
returns-in_ok-step-in-IncDec c = record {
  does = λ label. lemma.step_arm c.args.s.now c.deref.result.now (around_of (types_of c.args.walk.now.env) c.args.around.now (targets_of c.args.targets.now) label) c.args.walk.now c.step.new.walk c.args.flaws.now.items c.step.new.flaws.items c.args.out.now.items c.step.new.out.items c.deref.ensures c.in-IncDec.xs c.in-IncDec.up c.as_slice-in-IncDec.result.now c.in-IncDec.is c.as_slice-in-IncDec.ensures.value c.in_ok-step-in-IncDec.ensures.does;
}

pub returns-in_ok-update-in-Some : goal.returns-in_ok-update-in-Some
returns-in_ok-update-in-Some c = record {
  does = λ label. lemma.update_arm c.args.s.now c.deref.result.now (around_of (types_of c.args.walk.now.env) c.args.around.now (targets_of c.args.targets.now) label) c.args.walk.now c.update.new.walk c.args.flaws.now.items c.update.new.flaws.items c.args.out.now.items c.update.new.out.items c.deref.ensures c.in-Assign.xs c.in-Assign.ys c.in-Assign.op c.in-Some.op c.as_slice-in-Some.result.now c.as_slice-in-Some-2.result.now c.in-Assign.is c.in-Some.is c.as_slice-in-Some.ensures.value c.as_slice-in-Some-2.ensures.value c.in_ok-update-in-Some.ensures.does;
}

pub returns-in_ok-assign-in-None : goal.returns-in_ok-assign-in-None
returns-in_ok-assign-in-None c = record {
  does = λ label. lemma.assign_arm c.args.s.now c.deref.result.now (around_of (types_of c.args.walk.now.env) c.args.around.now (targets_of c.args.targets.now) label) c.args.walk.now c.assign.new.walk c.args.flaws.now.items c.assign.new.flaws.items c.args.out.now.items c.assign.new.out.items c.deref.ensures c.in-Assign.xs c.in-Assign.ys c.in-Assign.op c.as_slice-in-None.result.now c.as_slice-in-None-2.result.now c.in-Assign.is c.in-None.is c.as_slice-in-None.ensures.value c.as_slice-in-None-2.ensures.value c.in_ok-assign-in-None.ensures.does;
}

pub returns-in_ok-spare-in-Define : goal.returns-in_ok-spare-in-Define
returns-in_ok-spare-in-Define c = record {
  does = λ label. lemma.define_arm c.args.s.now c.deref.result.now (around_of (types_of c.args.walk.now.env) c.args.around.now (targets_of c.args.targets.now) label) c.args.walk.now c.spare.new.walk c.args.flaws.now.items c.define.new.flaws.items c.args.out.now.items c.define.new.out.items c.deref.ensures c.in-Define.xs c.in-Define.ys c.as_slice-in-Define.result.now c.as_slice-in-Define-2.result.now c.in-Define.is c.as_slice-in-Define.ensures.value c.as_slice-in-Define-2.ensures.value (spared_does (define c.args.s.now.place (exprs_of (map expr_view c.as_slice-in-Define.result.now)) (exprs_of (map expr_view c.as_slice-in-Define-2.result.now))) c.args.walk.now c.define.new.walk c.spare.new.walk c.args.flaws.now.items c.define.new.flaws.items c.args.out.now.items c.define.new.out.items c.len-names.result c.len-before.result (let u = c.len-names.ensures in let v = c.args.walk.now.declared.ok.0 in omega (arith, u, v)) (let u = c.len-before.ensures in let v = c.args.flaws.now.ok.0 in omega (arith, u, v)) c.in_ok-define-in-Define.ensures.does c.spare.ensures.env (λ ts. c.in_ok-spare-in-Define.ensures.value ts ∙ ap (λ (fs : List Flaw). with_spared (has_unbuilt (map flaw_view (drop c.len-before.result fs))) c.len-names.result (walk_of ts c.define.new.walk)) c.as_slice-in-Define-3.ensures.value));
}

pub returns-in_ok-stand-in-Decl : goal.returns-in_ok-stand-in-Decl
returns-in_ok-stand-in-Decl c = record {
  does = λ label. lemma.decl_arm c.args.s.now c.deref.result.now (around_of (types_of c.args.walk.now.env) c.args.around.now (targets_of c.args.targets.now) label) c.args.walk.now c.spare-in-Decl.new.walk c.args.flaws.now.items c.decl.new.flaws.items c.args.out.now.items c.stand.new.out.items c.deref.ensures c.in-Decl.d c.in-Decl.is (standing_does (λ w. spared w (decl (decl_view c.in-Decl.d) w)) c.args.walk.now c.spare-in-Decl.new.walk c.args.flaws.now.items c.decl.new.flaws.items c.args.out.now.items c.decl.new.out.items c.stand.new.out.items c.len-done.result (let u = c.len-done.ensures in let v = c.args.out.now.ok.0 in omega (arith, u, v)) (spared_does (decl (decl_view c.in-Decl.d)) c.args.walk.now c.decl.new.walk c.spare-in-Decl.new.walk c.args.flaws.now.items c.decl.new.flaws.items c.args.out.now.items c.decl.new.out.items c.len-names-in-Decl.result c.len-before-in-Decl.result (let u = c.len-names-in-Decl.ensures in let v = c.args.walk.now.declared.ok.0 in omega (arith, u, v)) (let u = c.len-before-in-Decl.ensures in let v = c.args.flaws.now.ok.0 in omega (arith, u, v)) c.in_ok-decl-in-Decl.ensures.does c.spare-in-Decl.ensures.env (λ ts. c.in_ok-spare-in-Decl.ensures.value ts ∙ ap (λ (fs : List Flaw). with_spared (has_unbuilt (map flaw_view (drop c.len-before-in-Decl.result fs))) c.len-names-in-Decl.result (walk_of ts c.decl.new.walk)) c.as_slice-in-Decl.ensures.value)) c.in_ok-stand-in-Decl.ensures.core);
}

pub returns-in_ok-returned-in-Return : goal.returns-in_ok-returned-in-Return
returns-in_ok-returned-in-Return c = record {
  does = λ label. lemma.return_arm c.args.s.now c.deref.result.now (around_of (types_of c.args.walk.now.env) c.args.around.now (targets_of c.args.targets.now) label) c.args.walk.now c.returned.new.walk c.args.flaws.now.items c.returned.new.flaws.items c.args.out.now.items c.returned.new.out.items c.deref.ensures c.in-Return.ys c.as_slice-in-Return.result.now c.in-Return.is c.as_slice-in-Return.ensures.value c.in_ok-returned-in-Return.ensures.does;
}

pub returns-in_ok-branch-in-Break : goal.returns-in_ok-branch-in-Break
returns-in_ok-branch-in-Break c = record {
  does = λ label. lemma.break_arm c.args.s.now c.deref.result.now (around_of (types_of c.args.walk.now.env) c.args.around.now (targets_of c.args.targets.now) label) c.args.walk.now c.args.walk.now c.args.flaws.now.items c.branch-walk.new.flaws.items c.args.out.now.items c.branch-walk.new.out.items c.deref.ensures c.in-Break.n (targets_of c.args.targets.now) c.in-Break.is refl c.in_ok-branch-in-Break.ensures.does;
}

pub returns-in_ok-branch-in-Continue : goal.returns-in_ok-branch-in-Continue
returns-in_ok-branch-in-Continue c = record {
  does = λ label. lemma.continue_arm c.args.s.now c.deref.result.now (around_of (types_of c.args.walk.now.env) c.args.around.now (targets_of c.args.targets.now) label) c.args.walk.now c.args.walk.now c.args.flaws.now.items c.branch-walk-in-Continue.new.flaws.items c.args.out.now.items c.branch-walk-in-Continue.new.out.items c.deref.ensures c.in-Continue.n (targets_of c.args.targets.now) c.in-Continue.is refl c.in_ok-branch-in-Continue.ensures.does;
}

pub returns-in_ok-refused-in-Fallthrough : goal.returns-in_ok-refused-in-Fallthrough
returns-in_ok-refused-in-Fallthrough c = record {
  does = λ label. lemma.fall_arm c.args.s.now c.deref.result.now (around_of (types_of c.args.walk.now.env) c.args.around.now (targets_of c.args.targets.now) label) c.args.walk.now c.args.walk.now c.args.flaws.now.items c.refused.new.flaws.items c.args.out.now.items c.args.out.now.items c.deref.ensures c.in-Fallthrough.is (c.in_ok-refused-in-Fallthrough.ensures.does c.args.out.now.items);
}

pub returns-in_ok-not_built-in-Send : goal.returns-in_ok-not_built-in-Send
returns-in_ok-not_built-in-Send c = record {
  does = λ label. lemma.send_arm c.args.s.now c.deref.result.now (around_of (types_of c.args.walk.now.env) c.args.around.now (targets_of c.args.targets.now) label) c.args.walk.now c.not_built.new.walk c.args.flaws.now.items c.not_built.new.flaws.items c.args.out.now.items c.args.out.now.items c.deref.ensures c.in-Send.field-0 c.in-Send.field-1 c.in-Send.is (c.in_ok-not_built-in-Send.ensures.does c.args.out.now.items);
}

pub returns-in_ok-not_built-in-Range : goal.returns-in_ok-not_built-in-Range
returns-in_ok-not_built-in-Range c = record {
  does = λ label. lemma.range_arm c.args.s.now c.deref.result.now (around_of (types_of c.args.walk.now.env) c.args.around.now (targets_of c.args.targets.now) label) c.args.walk.now c.not_built-in-Range.new.walk c.args.flaws.now.items c.not_built-in-Range.new.flaws.items c.args.out.now.items c.args.out.now.items c.deref.ensures c.in-Range.field-0 c.in-Range.field-1 c.in-Range.field-2 c.in-Range.field-3 c.in-Range.is (c.in_ok-not_built-in-Range.ensures.does c.args.out.now.items);
}

pub returns-in_ok-not_built-in-TypeSwitch : goal.returns-in_ok-not_built-in-TypeSwitch
returns-in_ok-not_built-in-TypeSwitch c = record {
  does = λ label. lemma.type_switch_arm c.args.s.now c.deref.result.now (around_of (types_of c.args.walk.now.env) c.args.around.now (targets_of c.args.targets.now) label) c.args.walk.now c.not_built-in-TypeSwitch.new.walk c.args.flaws.now.items c.not_built-in-TypeSwitch.new.flaws.items c.args.out.now.items c.args.out.now.items c.deref.ensures c.in-TypeSwitch.field-0 c.in-TypeSwitch.field-1 c.in-TypeSwitch.field-2 c.in-TypeSwitch.field-3 c.in-TypeSwitch.is (c.in_ok-not_built-in-TypeSwitch.ensures.does c.args.out.now.items);
}

pub returns-in_ok-not_built-in-Select : goal.returns-in_ok-not_built-in-Select
returns-in_ok-not_built-in-Select c = record {
  does = λ label. lemma.select_arm c.args.s.now c.deref.result.now (around_of (types_of c.args.walk.now.env) c.args.around.now (targets_of c.args.targets.now) label) c.args.walk.now c.not_built-in-Select.new.walk c.args.flaws.now.items c.not_built-in-Select.new.flaws.items c.args.out.now.items c.args.out.now.items c.deref.ensures c.in-Select.field-0 c.in-Select.is (c.in_ok-not_built-in-Select.ensures.does c.args.out.now.items);
}

pub returns-in_ok-not_built-in-Go : goal.returns-in_ok-not_built-in-Go
returns-in_ok-not_built-in-Go c = record {
  does = λ label. lemma.go_arm c.args.s.now c.deref.result.now (around_of (types_of c.args.walk.now.env) c.args.around.now (targets_of c.args.targets.now) label) c.args.walk.now c.not_built-in-Go.new.walk c.args.flaws.now.items c.not_built-in-Go.new.flaws.items c.args.out.now.items c.args.out.now.items c.deref.ensures c.in-Go.field-0 c.in-Go.is (c.in_ok-not_built-in-Go.ensures.does c.args.out.now.items);
}

pub returns-in_ok-not_built-in-Defer : goal.returns-in_ok-not_built-in-Defer
returns-in_ok-not_built-in-Defer c = record {
  does = λ label. lemma.defer_arm c.args.s.now c.deref.result.now (around_of (types_of c.args.walk.now.env) c.args.around.now (targets_of c.args.targets.now) label) c.args.walk.now c.not_built-in-Defer.new.walk c.args.flaws.now.items c.not_built-in-Defer.new.flaws.items c.args.out.now.items c.args.out.now.items c.deref.ensures c.in-Defer.field-0 c.in-Defer.is (c.in_ok-not_built-in-Defer.ensures.does c.args.out.now.items);
}

pub unreachable-requires : goal.unreachable-requires
unreachable-requires c = lemma.not_block c.args.s.now c.deref.result.now c.deref.ensures c.requires.plain c.in-Block.field-0 c.in-Block.is

pub unreachable-requires-in-If : goal.unreachable-requires-in-If
unreachable-requires-in-If c = lemma.not_if c.args.s.now c.deref.result.now c.deref.ensures c.requires.plain c.in-If.field-0 c.in-If.field-1 c.in-If.field-2 c.in-If.field-3 c.in-If.is

pub unreachable-requires-in-For : goal.unreachable-requires-in-For
unreachable-requires-in-For c = lemma.not_for c.args.s.now c.deref.result.now c.deref.ensures c.requires.plain c.in-For.field-0 c.in-For.field-1 c.in-For.field-2 c.in-For.field-3 c.in-For.is

pub unreachable-requires-in-Switch : goal.unreachable-requires-in-Switch
unreachable-requires-in-Switch c = lemma.not_switch c.args.s.now c.deref.result.now c.deref.ensures c.requires.plain c.in-Switch.field-0 c.in-Switch.field-1 c.in-Switch.field-2 c.in-Switch.is

pub unreachable-requires-in-Labeled : goal.unreachable-requires-in-Labeled
unreachable-requires-in-Labeled c = lemma.not_labeled c.args.s.now c.deref.result.now c.deref.ensures c.requires.plain c.in-Labeled.field-0 c.in-Labeled.field-1 c.in-Labeled.is
