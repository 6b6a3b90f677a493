use Rattle.std.proofs.Common.{map}
use Rattle.go_type.specs.Levels.{tree_of}
use Rattle.go_core.specs.CoreView.{stmt_view, target_view}
use Rattle.go_typing.specs.Typing.{operator_row}
use Rattle.go_operands.specs.AnswerView.{answer_view}
use Rattle.go_operands.specs.Parts.{part}
use Rattle.go_calls.specs.Words.{types_of, names_of}
use Rattle.go_expr.specs.Raw.{raw_view}
use Rattle.go_define.proofs.UpdateLemmas.{spot_stored}
use Rattle.go_define.proofs.update.spot.update_spot.Goals as goal

pub returns-in-Ok-one_stored-clause-core : goal.returns-in-Ok-one_stored-clause-core
returns-in-Ok-one_stored-clause-core c =
    let e = c.args.env.now in
    let vs = types_of e in
    let r = operator_row (names_of e) c.args.at c.args.op (part c.args.p (answer_view vs c.args.x.value)) (raw_view vs c.args.y).part in
    λ ts k. spot_stored (names_of e) c.args.at (tree_of vs c.args.ty) (map (stmt_view ts) c.args.out.now.items) (map (stmt_view ts) c.one_stored.new.out.items) (map (target_view ts) c.in-Ok.targets.items) _ (answer_view vs c.in-Ok-row.whole) r (answer_view vs c.in-Ok-fit_row.whole)
    (c.in-Ok.ensures.value ts k) c.in-Ok-row.ensures.view c.in-Ok-fit_row.ensures.view (c.in-Ok-one_stored.ensures.core ts k)
