use Rattle.std.proofs.Common.{arith, []}
use Rattle.go_body.proofs.DeclLemmas.{specs_step, specs_end}
use Rattle.go_body.proofs.local.types.type_specs.Goals as goal

pub one_spec-requires : goal.one_spec-requires
one_spec-requires c = let d = (c.loop-spec.invariant []).depth in let r = c.requires.depth in omega (arith, d, r)

pub loop-spec-preserved : goal.loop-spec-preserved
loop-spec-preserved c =
    λ out.
    specs_step c.args.specs.now c.loop-spec.spec-index c.spec-item.result c.args.walk.now c.loop-spec.walk c.one_spec.new.walk c.args.flaws.now.items c.loop-spec.flaws.items c.one_spec.new.flaws.items out c.loop-spec-test.true c.spec-item.is (c.loop-spec.invariant out) (c.in_ok-one_spec.ensures.does out)

pub returns : goal.returns
returns c =
    record { does = λ out. specs_end c.args.specs.now c.loop-spec.spec-index c.args.walk.now c.loop-spec.walk c.args.flaws.now.items c.loop-spec.flaws.items out c.loop-spec-test.false (c.loop-spec.invariant out) }
