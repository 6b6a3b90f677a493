use Rattle.std.proofs.Common.{arith, ◌∙◌, ap, sym, map, List}
use Rattle.std.specs.Prelude.{reverse}
use Rattle.go_typing.specs.Statements.{innermost}
use Rattle.go_walk.specs.declared.labels.target.Target.{Target}
use Rattle.go_walk.specs.Left.{target_of}
use Rattle.go_walk.proofs.LabelsSteps.{all_of}
use Rattle.go_walk.proofs.TargetLemmas.{innermost_found, innermost_past}
use Rattle.go_walk.proofs.labels.target.Targets.innermost.Goals as goal

pub loop-i-init : goal.loop-i-init
loop-i-init c = record {
  within = omega arith;
  left = ap (λ (ts : List Target). innermost c.args.loops (reverse (map target_of ts))) (all_of target_of c.args.self.now.items.items c.len-i.result (c.len-i.ensures ∙ c.args.self.now.items.ok.0));
}

pub loop-i-preserved : goal.loop-i-preserved
loop-i-preserved c = record {
  within = omega arith;
  left =
      innermost_past c.args.loops c.loop-i.i c.args.self.now.items.items c.index-target.result.now c.loop-i-test.true c.loop-i.invariant.within c.index-target.ensures (sym c.fits.ensures.value ∙ c.if-fits.false)
      ∙ c.loop-i.invariant.left;
}

pub returns-then-fits : goal.returns-then-fits
returns-then-fits c = record {
  value =
      sym (innermost_found c.args.loops c.loop-i.i c.args.self.now.items.items c.index-target.result.now c.loop-i-test.true c.loop-i.invariant.within c.index-target.ensures (sym c.fits.ensures.value ∙ c.if-fits.true))
      ∙ c.loop-i.invariant.left;
}
