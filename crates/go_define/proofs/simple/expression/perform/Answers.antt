use Rattle.go_type.specs.Levels.{tree_of}
use Rattle.go_operands.specs.EnvView.{table_of}
use Rattle.go_calls.specs.Words.{types_of}
use Rattle.go_operands.specs.AnswerView.{answer_view}
use Rattle.go_typing.specs.Expressions.{core_of}
use Rattle.go_typing.specs.Statements.{values_of}
use Rattle.go_define.proofs.ToldLemmas.{performs}
use Rattle.go_define.proofs.simple.expression.perform.Goals as goal

pub returns-in_ok-and_performed-in-Ok : goal.returns-in_ok-and_performed-in-Ok
returns-in_ok-and_performed-in-Ok c =
    let e = c.args.env.now in
    record {
      core = performs (table_of e) c.args.out.now.items c.and_performed.new.out.items c.in-Ok.whole (core_of (answer_view (types_of e) c.args.answer)) c.in-Some.count (values_of (tree_of (types_of e) c.args.ty)) c.in_ok-and_performed-in-Ok.ensures.core c.in-Ok.ensures.value c.in-Some.ensures.value;
    }
