use Rattle.std.proofs.Common.{map}
use Rattle.go_operands.specs.AnswerView.{flaw_view}
use Rattle.go_calls.specs.Words.{types_of}
use Rattle.go_expr.specs.Raw.{raws_view}
use Rattle.go_define.specs.FreshView.{freshes_view}
use Rattle.go_define.proofs.AllLemmas.{not_does}
use Rattle.go_define.proofs.define.all.define_not.Goals as goal

pub returns-in-Ok-unknown_each : goal.returns-in-Ok-unknown_each
returns-in-Ok-unknown_each c =
    let ts = types_of c.args.walk.now.env in
    record {
      does = λ out. not_does c.args.at (map flaw_view c.args.fs.items) (freshes_view ts c.args.freshes) (raws_view ts c.args.raws) c.args.walk.now c.unknown_each.new.walk c.args.flaws.now.items c.parts_told.new.flaws.items c.unknown_each.new.flaws.items c.names_typed-typed.result out c.in-Ok-unknown_each.ensures.moves (c.names_typed-typed.ensures.value ts) (c.in-Ok.ensures.told ts) c.in-Ok-unknown_each.ensures.told;
    }
