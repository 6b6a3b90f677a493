use Rattle.std.proofs.Common.{arith}
use Rattle.go_body.proofs.GivenLemmas.{specs_step, specs_end}
use Rattle.go_body.proofs.local_vars.specs.var_specs.Goals as goal

pub var_spec-requires : goal.var_spec-requires
var_spec-requires c = let d = c.loop-spec.invariant.depth in let r = c.requires.depth in omega (arith, d, r)

pub loop-spec-preserved : goal.loop-spec-preserved
loop-spec-preserved c =
    specs_step c.args.at c.args.specs.now c.loop-spec.spec-index c.spec-item.result c.args.walk.now c.loop-spec.walk c.var_spec.new.walk c.args.flaws.now.items c.loop-spec.flaws.items c.var_spec.new.flaws.items c.args.out.now.items c.loop-spec.out.items c.var_spec.new.out.items
    c.loop-spec-test.true c.spec-item.is c.loop-spec.invariant c.in_ok-var_spec.ensures.does

pub returns : goal.returns
returns c =
    record {
      does = specs_end c.args.at c.args.specs.now c.loop-spec.spec-index c.args.walk.now c.loop-spec.walk c.args.flaws.now.items c.loop-spec.flaws.items c.args.out.now.items c.loop-spec.out.items c.loop-spec-test.false c.loop-spec.invariant;
    }
