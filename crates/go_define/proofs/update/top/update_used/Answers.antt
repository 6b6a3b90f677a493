use Rattle.go_syntax.specs.View.{expr_view}
use Rattle.go_operands.specs.AnswerView.{answer_view}
use Rattle.go_calls.specs.Words.{types_of}
use Rattle.go_typing.specs.Walk.{Walk}
use Rattle.go_expr.specs.Raw.{raw_of, raw_view}
use Rattle.go_define.proofs.UpdateTopLemmas.{update_gives}
use Rattle.go_define.proofs.update.top.update_used.Goals as goal

pub returns-in-Ok-update_with : goal.returns-in-Ok-update_with
returns-in-Ok-update_with c =
    let ts = types_of c.both_typed.new.walk.env in
    let y = expr_view c.args.y.now in
    record {
      does = update_gives c.args.at c.args.op (expr_view c.args.x.now) (λ (w : Walk). raw_of w.names w.scopes y) c.args.walk.now c.left_in.new.walk c.both_typed.new.walk c.place_in-p.result (answer_view ts c.in-Ok.parts.0.value) (raw_view ts c.in-Ok.parts.1) c.in_ok-left.left
          c.args.flaws.now.items c.update_with.new.flaws.items c.args.out.now.items c.update_with.new.out.items c.in_ok-left.ensures.stays c.in-Ok.ensures.stays c.place_in-p.ensures.value c.in_ok-left.ensures.view c.in_ok-left.ensures.within c.in-Ok.ensures.first (λ vs. c.in-Ok.ensures.second)
          c.in-Ok-update_with.ensures.adds;
    }
