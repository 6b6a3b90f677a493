use Rattle.std.proofs.Common.{◌≡◌, subst}
use Rattle.std.proofs.lemmas.Result.{on_ok_weaker}
use Rattle.go_type.specs.Table.{places, names}
use Rattle.go_type.specs.declared.table.TypeTable.{TypeTable}
use Rattle.go_typing.specs.Unary.{unary_row}
use Rattle.go_operands.specs.AnswerView.{answer_view}
use Rattle.go_operands.specs.Parts.{part_view}
use Rattle.go_calls.specs.Words.{types_of, names_of}
use Rattle.go_expr.proofs.NodeLemmas.{did_one}
use Rattle.go_expr.proofs.parts.node.prefixed.Goals as goal

pub returns-in-Ok-clause-does : goal.returns-in-Ok-clause-does
returns-in-Ok-clause-does c =
    let e : answer_view (types_of c.args.env.now) c.in-Ok.answer ≡ unary_row (names_of c.args.env.now) c.args.at c.args.op (part_view (types_of c.args.env.now) c.take-answer.result) =
    subst (λ (t : TypeTable). answer_view (places t) c.in-Ok.answer ≡ unary_row (names t) c.args.at c.args.op (part_view (places t) c.take-answer.result)) c.table.ensures.value c.in-Ok.ensures.view in
    on_ok_weaker c.hear.result
    (did_one (types_of c.args.env.now) c.args.at (unary_row (names_of c.args.env.now) c.args.at c.args.op) c.take-answer.result (answer_view (types_of c.args.env.now) c.in-Ok.answer)
    c.args.parts.now.items c.take-answer.new.parts.items c.hear.new.parts.items c.args.flaws.now.items c.hear.new.flaws.items c.take-answer.ensures.split e)
    c.hear.ensures.does
