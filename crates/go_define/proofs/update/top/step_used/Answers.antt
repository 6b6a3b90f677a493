use Rattle.std.proofs.Common.{[]}
use Rattle.go_syntax.specs.View.{expr_view}
use Rattle.go_operands.specs.AnswerView.{answer_view}
use Rattle.go_type.specs.Table.{size}
use Rattle.go_operands.specs.EnvView.{table_of}
use Rattle.go_calls.specs.Words.{types_of}
use Rattle.go_typing.specs.Walk.{Walk}
use Rattle.go_typing.specs.Assign.{one_}
use Rattle.go_expr.specs.Raw.{Raw, raw_view}
use Rattle.go_define.proofs.UpdateTopLemmas.{update_gives}
use Rattle.go_define.proofs.update.top.step_used.Goals as goal

pub returns-in-Ok-update_with : goal.returns-in-Ok-update_with
returns-in-Ok-update_with c =
    let ts = types_of c.one_typed.new.walk.env in
    let one : Raw = record { part = one_ c.args.at; flaws = [] } in
    record {
      does = update_gives c.args.at c.args.op (expr_view c.args.x.now) (λ (w : Walk). one) c.args.walk.now c.left_in.new.walk c.one_typed.new.walk c.place_in-p.result (answer_view ts c.in-Ok.held.value) (raw_view ts c.one-raw.result) c.in_ok-left.left c.args.flaws.now.items c.update_with.new.flaws.items
          c.args.out.now.items c.update_with.new.out.items c.in_ok-left.ensures.stays c.in-Ok.ensures.stays c.place_in-p.ensures.value c.in_ok-left.ensures.view c.in_ok-left.ensures.within c.in-Ok.ensures.view (λ vs. c.one-raw.ensures.view ts) c.in-Ok-update_with.ensures.adds;
    }

pub update_with-requires-clause-y : goal.update_with-requires-clause-y
update_with-requires-clause-y c = c.one-raw.ensures.within (size (table_of c.one_typed.new.walk.env))
