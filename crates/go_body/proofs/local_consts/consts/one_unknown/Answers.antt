use Rattle.std.proofs.Common.{ap, map}
use Rattle.go_operands.specs.AnswerView.{flaw_view}
use Rattle.go_body.proofs.ConstLemmas.{unknown_does}
use Rattle.go_body.proofs.local_consts.consts.one_unknown.Goals as goal

pub returns-in-Ok : goal.returns-in-Ok
returns-in-Ok c =
    record {
      does = λ out. unknown_does c.args.n.now (map flaw_view c.new.result.items) c.args.walk.now c.told_constant.new.walk c.args.flaws.now.items c.told_constant.new.flaws.items out (ap (map flaw_view) c.new.ensures.items) (c.in-Ok.ensures.does out);
    }
