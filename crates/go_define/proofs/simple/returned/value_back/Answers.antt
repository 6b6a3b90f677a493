use Rattle.std.proofs.Common.{◌∙◌, ap, List, ◌∷◌, [], ◌++◌, map}
use Rattle.go_operands.specs.EnvView.{table_of}
use Rattle.go_calls.specs.Words.{types_of}
use Rattle.go_operands.specs.AnswerView.{answer_view}
use Rattle.go_core.specs.CoreView.{expr_view}
use Rattle.go_core.specs.declared.node.CoreExpr.{CoreExpr}
use Rattle.go_typing.specs.Expressions.{core_of}
use Rattle.go_define.proofs.BackLemmas.{adds_one}
use Rattle.go_define.proofs.simple.returned.value_back.Goals as goal

pub returns-in_ok-and_return-in-Ok : goal.returns-in_ok-and_return-in-Ok
returns-in_ok-and_return-in-Ok c =
    let e = c.args.env.now in
    let x = core_of (answer_view (types_of e) c.args.answer) in
    record {
      adds = λ fs.
          adds_one (table_of e) x fs c.args.out.now.items c.and_return.new.out.items c.and_core.new.values.items c.in_ok-and_return-in-Ok.ensures.core
          (λ ts k. c.in-Ok.ensures.values ts k ∙ ap (λ (es : List CoreExpr). map (expr_view ts) es ++ x ∷ []) c.new-values.ensures.items);
    }
