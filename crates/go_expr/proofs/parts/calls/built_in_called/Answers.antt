use Rattle.std.proofs.Common.{◌≡◌, subst}
use Rattle.std.specs.Prelude.{OnOk}
use Rattle.go_type.specs.Table.{places, names}
use Rattle.go_type.specs.declared.table.TypeTable.{TypeTable}
use Rattle.go_typing.specs.Answer.{Answer}
use Rattle.go_typing.specs.Call.{built_in_row}
use Rattle.go_operands.specs.BuiltinView.{builtin_view}
use Rattle.go_operands.specs.AnswerView.{answer_view}
use Rattle.go_calls.specs.CallView.{parts_view}
use Rattle.go_calls.specs.Words.{types_of, names_of}
use Rattle.go_expr.specs.Stacked.{Hears}
use Rattle.go_expr.proofs.parts.calls.built_in_called.Goals as goal

pub returns-in-Ok-clause-does : goal.returns-in-Ok-clause-does
returns-in-Ok-clause-does c =
    let e : answer_view (types_of c.args.env.now) c.in-Ok.answer ≡ built_in_row (names_of c.args.env.now) c.args.at (builtin_view c.args.function) c.args.spread (parts_view (types_of c.args.env.now) c.args.given.items) =
    subst (λ (t : TypeTable). answer_view (places t) c.in-Ok.answer ≡ built_in_row (names t) c.args.at (builtin_view c.args.function) c.args.spread (parts_view (places t) c.args.given.items)) c.table.ensures.value c.in-Ok.ensures.view in
    subst (λ (a : Answer). OnOk c.hear.result (Hears (types_of c.args.env.now) c.args.at a c.args.parts.now.items c.hear.new.parts.items c.args.flaws.now.items c.hear.new.flaws.items)) e c.hear.ensures.does
