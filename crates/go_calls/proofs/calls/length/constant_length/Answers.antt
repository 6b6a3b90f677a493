use Rattle.std.proofs.Common.{◌≡◌, subst, length}
use Rattle.std.specs.Prelude.{IfOk, Some, false, pos}
use Rattle.gj_base.specs.declared.kind.Kind.TheVariants.{I32}
use Rattle.go_const.specs.Answer.{settled_of}
use Rattle.go_type.specs.Table.{places}
use Rattle.go_typing.specs.Operand.{folded}
use Rattle.go_operands.specs.AnswerView.{answer_view}
use Rattle.go_calls.proofs.CallsConstLemmas.{same_answer}
use Rattle.go_calls.proofs.calls.length.constant_length.Goals as goal

pub returns-clause-view : goal.returns-clause-view
returns-clause-view c =
    let ts = places c.args.table.now in
    let x = settled_of (Some I32) false (pos (length c.args.bytes.now)) in
    let same = c.counted-answer.ensures in
    subst (λ t. IfOk c.folded.result (λ a. answer_view ts a ≡ folded c.args.at t x)) c.int_type.ensures.tree (c.folded.ensures.view x (same_answer c.counted-answer.result x same))
