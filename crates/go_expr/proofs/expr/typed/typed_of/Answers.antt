use Rattle.std.proofs.Common.{sym, subst}
use Rattle.go_type.specs.Table.{places}
use Rattle.go_operands.specs.declared.answers.answer.Answer.{Answer}
use Rattle.go_operands.specs.AnswerView.{answer_view}
use Rattle.go_expr.specs.Typed.{Shows}
use Rattle.go_expr.proofs.expr.typed.typed_of.Goals as goal

pub returns-in-Prints : goal.returns-in-Prints
returns-in-Prints c = record {
  shows =
      subst (λ (a : Answer). Shows (places c.args.table.now) (answer_view (places c.args.table.now) a) c.args.faults.items.items c.of_print.result) (sym c.in-Prints.is)
      (c.of_print.ensures.shows (places c.args.table.now));
}
