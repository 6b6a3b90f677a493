use Rattle.go_calls.specs.Words.{types_of, names_of}
use Rattle.go_expr.specs.Raw.{raw_view}
use Rattle.go_assign.specs.Settled.{valued_view}
use Rattle.go_assign.specs.SpecView.{spec_view, constant_raw}
use Rattle.go_body.proofs.ConstLemmas.{one_same}
use Rattle.go_body.proofs.local_consts.consts.one_const.Goals as goal

pub returns-in-Ok-told_constant-clause-does : goal.returns-in-Ok-told_constant-clause-does
returns-in-Ok-told_constant-clause-does c =
    let e = c.args.walk.now.env in
    let ts = types_of e in
    λ out.
    one_same c.args.n.now (valued_view ts c.in-Ok.valued) (constant_raw (names_of e) (spec_view ts c.args.s) (raw_view ts c.args.raw)) c.args.walk.now c.told_constant.new.walk c.args.flaws.now.items c.told_constant.new.flaws.items out c.in-Ok.ensures.view (c.in-Ok-told_constant.ensures.does out)
