use Rattle.std.proofs.Common.{arith, []}
use Rattle.go_body.proofs.StepLemmas.{unknown_step, unknown_end}
use Rattle.go_body.proofs.local_consts.consts.unknown_consts.Goals as goal

pub one_unknown-requires : goal.one_unknown-requires
one_unknown-requires c = let d = (c.loop-n.invariant []).depth in let r = c.requires.depth in omega (arith, d, r)

pub loop-n-preserved : goal.loop-n-preserved
loop-n-preserved c =
    λ out.
    unknown_step c.args.names.now c.loop-n.n-index c.n-item.result c.args.walk.now c.loop-n.walk c.one_unknown.new.walk c.args.flaws.now.items c.loop-n.flaws.items c.one_unknown.new.flaws.items out c.loop-n-test.true c.n-item.is (c.loop-n.invariant out) (c.in_ok-one_unknown.ensures.does out)

pub returns : goal.returns
returns c =
    record { does = λ out. unknown_end c.args.names.now c.loop-n.n-index c.args.walk.now c.loop-n.walk c.args.flaws.now.items c.loop-n.flaws.items out c.loop-n-test.false (c.loop-n.invariant out) }
