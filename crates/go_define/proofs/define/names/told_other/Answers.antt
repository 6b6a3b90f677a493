use Rattle.std.proofs.Common.{map}
use Rattle.go_syntax.specs.View.{expr_view}
use Rattle.go_operands.specs.AnswerView.{flaw_view}
use Rattle.go_calls.specs.Words.{types_of}
use Rattle.go_expr.specs.Raw.{raw_view}
use Rattle.go_define.proofs.NameLemmas.{other_told}
use Rattle.go_define.proofs.define.names.told_other.Goals as goal

pub returns-in-Ok-told_raw-clause-told : goal.returns-in-Ok-told_raw-clause-told
returns-in-Ok-told_raw-clause-told c =
    let ts = types_of c.typed.new.walk.env in
    other_told c.args.walk.now.env (expr_view c.args.x.now) (raw_view ts c.in-Ok.raw) (map flaw_view c.args.flaws.now.items) (map flaw_view c.told_raw.new.flaws.items) c.in-Ok.ensures.view (c.in-Ok-told_raw.ensures.told ts)
