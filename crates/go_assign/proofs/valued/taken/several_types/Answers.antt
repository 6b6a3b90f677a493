use Rattle.std.proofs.Common.{◌∙◌, sym, ap}
use Rattle.go_type.specs.Levels.{tree_of}
use Rattle.go_core.specs.CoreView.{expr_view}
use Rattle.go_operands.specs.AnswerView.{answer_view}
use Rattle.go_operands.specs.declared.answers.answer.Answer.{Answer}
use Rattle.go_calls.specs.Words.{types_of}
use Rattle.go_typing.specs.Expressions as go
use Rattle.go_assign.proofs.TakenLemmas.{several_value}
use Rattle.go_assign.proofs.valued.taken.several_types.Goals as goal

pub returns-in-Value-clause-value : goal.returns-in-Value-clause-value
returns-in-Value-clause-value c =
    let ts = types_of c.args.env.now in
    c.tuple_types.ensures.value ∙ several_value (expr_view ts c.in-Value.found.core) (tree_of ts c.in-Value.found.ty) c.in-Value.found.value
    ∙ ap (λ (a : Answer). go.several_types (answer_view ts a)) (sym c.in-Value.is)
