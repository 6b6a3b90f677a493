use Rattle.go_operands.specs.EnvView.{table_of}
use Rattle.go_calls.specs.Words.{types_of}
use Rattle.go_operands.specs.AnswerView.{answer_view}
use Rattle.go_define.proofs.ToldLemmas.{adds_performed}
use Rattle.go_define.proofs.simple.expression.performed.Goals as goal

pub returns-in_ok-perform-in-Some : goal.returns-in_ok-perform-in-Some
returns-in_ok-perform-in-Some c =
    let e = c.args.env.now in
    record {
      adds = adds_performed (table_of e) c.args.is_function c.args.at (answer_view (types_of e) c.args.answer) c.in-Some.ty c.args.flaws.now.items c.args.out.now.items c.perform.new.out.items c.in-Some.ensures.value c.in_ok-perform-in-Some.ensures.core;
    }
